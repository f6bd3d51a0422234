-- What is claimed of the counts after a run and after a list of calls (document 01, "Choices and moves": the balance
-- and the net of each tray, the choices done, the tally).
-- Assumes nothing.
use Rattle.std.specs.Prelude.{ℕ, ◌+◌, ◌≤◌, min, ◌≡◌, List, [], ◌∷◌, length, pos, ◌-ℤ◌, nat_abs}
use Rattle.calculus.specs.Syntax.{Name}
use Rattle.calculus.specs.State.{count, same, occurrences}
use Rattle.calculus.specs.Reduction.{Rule}
use Rattle.semantics.specs.Definitions.Layout.{counter_top}
use Rattle.semantics.specs.Definitions.Table.{Table}
use Rattle.semantics.specs.Definitions.Configuration.{Configuration}
use Rattle.semantics.specs.Definitions.Stored.{WellFormed, bytes_of}
use Rattle.semantics.specs.Definitions.Moves.{effect_of, rule_number}
use Rattle.semantics.specs.Definitions.Run.{Counters, net, Step, steps, final_configuration, run, schedule, entries}
use Rattle.semantics.specs.Definitions.Calls.{Buffers, Call, after_calls, entries_done}
use Rattle.semantics.specs.Claims.Correspondence.{AcceptsTable, EveryHall}

-- what a rule adds to a channel, and what it takes from it
unfoldable pub adds : Name → Rule → ℕ
unfolding occurrences effect_of
adds a r = occurrences a (effect_of r).added

unfoldable pub removes : Name → Rule → ℕ
unfolding occurrences effect_of
removes a r = occurrences a (effect_of r).taken

-- a sum over steps
unfoldable pub total : (Rule → ℕ) → List Step → ℕ
total f [] = 0
total f (s ∷ ss) = f s.rule + total f ss

-- how many steps were by the rule of this number
unfoldable pub by_rule : ℕ → List Step → ℕ
unfolding total rule_number same
by_rule n ss = total (λ r. same (rule_number r) n) ss

-- of the steps ss from the hall h and the tally c to the hall g and the tally d
pub record Accounts (h g : Configuration) (c d : Counters) (ss : List Step) : Type 0 where
  pub leaves : final_configuration h ss ≡ g
  -- of every tray: what is left, with all that IN, REP and the reads of commits took, is what was there with all that
  -- OUT put
  pub balance : (x : Name) → count g.counts x + total (removes x) ss ≡ count h.counts x + total (adds x) ss
  -- its net is what came in minus what went out, from -255 to 255
  pub net_is : (x : Name) →
      net (count h.counts x) (count g.counts x) ≡ pos (total (adds x) ss) -ℤ pos (total (removes x) ss)
  pub net_within : (x : Name) → nat_abs (net (count h.counts x) (count g.counts x)) ≤ 255
  -- each counter is the smaller of its top and its first value plus the number of its rules
  pub commits : d.commits ≡ min counter_top (c.commits + by_rule 7 ss)
  pub failed : d.failed ≡ min counter_top (c.failed + by_rule 6 ss)
  pub retries : d.retries ≡ min counter_top (c.retries + by_rule 5 ss)

abbrev pub WithinTop : Counters → Type 0
WithinTop c = (c.commits ≤ counter_top) × (c.failed ≤ counter_top) × (c.retries ≤ counter_top)

-- a run over choice bytes: done is how many choices moved
unfoldable pub RunAccounts : Type 0
RunAccounts = EveryHall (λ t h.
    (c : Counters) → WithinTop c → (choices : List ℕ) →
    let ss = steps h (entries (schedule choices)) in
    let a = run h c choices in
    (a.done ≡ length ss) × Accounts h a.configuration c a.counters ss)

-- a list of calls on a stored hall, choices refused on the way included: the sums go over the choices done, of all
-- calls as one list
unfoldable pub CallsAccounts : Type 0
CallsAccounts =
    (bs : List ℕ) (t : Table) → AcceptsTable bs t → (h : Configuration) → WellFormed t.terms h →
    (l : Buffers) → l.hall ≡ bytes_of h → WithinTop l.counters → (cs : List Call) →
    let ss = steps h (entries_done bs l cs) in
    (g : Configuration) × ((after_calls bs l cs).hall ≡ bytes_of g) × (length ss ≡ length (entries_done bs l cs)) ×
    Accounts h g l.counters (after_calls bs l cs).counters ss
