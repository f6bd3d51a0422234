-- A run over the bytes of a schedule (list of choices), with its counters (tally): document 01, "Choices and moves".
-- Assumes nothing.
use Rattle.std.specs.Prelude.{ℕ, zero, suc, ◌+◌, ◌≤◌, min, ◌≡◌, false, cond, List, [], ◌∷◌, ◌++◌, eqb, ℤ, pos, ◌-ℤ◌}
use Rattle.calculus.specs.Reduction.{Rule}
use Rattle.semantics.specs.Definitions.Layout.{counter_top, max_byte}
use Rattle.semantics.specs.Definitions.Configuration.{Configuration}
use Rattle.semantics.specs.Definitions.Moves.{Entry, act, inside, Transition, moved, refused, transition, is_accepted, rule_number}

-- ---- the bytes of a schedule

-- an entry with the number of its bytes, or what ends the schedule: refusal 12 for a kind that is neither 1 nor 2,
-- refusal 13 for bytes that end too early
pub data ScheduleItem : Type 0 where
  entry : Entry → (size : ℕ) → ScheduleItem
  malformed : ℕ → ScheduleItem

unfoldable pub schedule : List ℕ → List ScheduleItem
schedule [] = []
schedule (zero ∷ bs) = malformed 12 ∷ []
schedule (suc zero ∷ []) = malformed 13 ∷ []
schedule (suc zero ∷ p ∷ bs) = entry (act p) 2 ∷ schedule bs
schedule (suc (suc zero) ∷ []) = malformed 13 ∷ []
schedule (suc (suc zero) ∷ p ∷ []) = malformed 13 ∷ []
schedule (suc (suc zero) ∷ p ∷ k ∷ bs) = entry (inside p k) 3 ∷ schedule bs
schedule (suc (suc (suc k)) ∷ bs) = malformed 12 ∷ []

-- and back: kind 1 with a position, kind 2 with a position and a node
unfoldable pub entry_bytes : Entry → List ℕ
entry_bytes (act p) = 1 ∷ p ∷ []
entry_bytes (inside p k) = 2 ∷ p ∷ k ∷ []

-- an entry whose position and node are bytes
unfoldable pub InBytes : Entry → Type 0
InBytes (act p) = p ≤ max_byte
InBytes (inside p k) = (p ≤ max_byte) × (k ≤ max_byte)

-- quiescent ("still"): no entry whose position and node are bytes is accepted
unfoldable pub Quiescent : Configuration → Type 0
unfolding is_accepted InBytes
Quiescent h = (e : Entry) → InBytes e → is_accepted h e ≡ false

unfoldable pub schedule_bytes : List Entry → List ℕ
unfolding entry_bytes
schedule_bytes [] = []
schedule_bytes (e ∷ es) = entry_bytes e ++ schedule_bytes es

-- the entries of a schedule, up to what ends it
unfoldable pub entries : List ScheduleItem → List Entry
entries [] = []
entries (entry e w ∷ items) = e ∷ entries items
entries (malformed n ∷ items) = []

-- ---- the counters

-- how often rules 7, 6 and 5 were done
pub record Counters : Type 0 where
  pub commits : ℕ
  pub failed : ℕ
  pub retries : ℕ

-- the tally of a hall just opened
unfoldable pub fresh_counters : Counters
fresh_counters = record { commits = 0; failed = 0; retries = 0 }

unfoldable pub saturating_suc : ℕ → ℕ
saturating_suc n = min counter_top (suc n)

-- the counter of a rule's number rises when a rule of that number is done
unfoldable pub counted_at : (number rule counter : ℕ) → ℕ
unfolding saturating_suc
counted_at n r k = cond (eqb r n) (saturating_suc k) k

unfoldable pub counted : Rule → Counters → Counters
unfolding counted_at rule_number
counted r t = record {
  commits = counted_at 7 (rule_number r) t.commits;
  failed = counted_at 6 (rule_number r) t.failed;
  retries = counted_at 5 (rule_number r) t.retries;
}

-- ---- the net

-- of a channel: its last count minus its first
unfoldable pub net : (first last : ℕ) → ℤ
net first last = pos last -ℤ pos first

-- ---- the run

-- number (0 for none), place and how many choices were done, and beside them what the run leaves
pub record RunAnswer : Type 0 where
  pub number : ℕ
  pub place : ℕ
  pub done : ℕ
  pub configuration : Configuration
  pub counters : Counters

unfoldable pub continue_run : Transition → (ℕ → RunAnswer) → (Rule → Configuration → RunAnswer) → RunAnswer
continue_run (moved r h) stopped next = next r h
continue_run (refused n) stopped next = stopped n

-- the rest of a run, from a place in the schedule with so many entries done
unfoldable pub run_from : Configuration → Counters → (place done : ℕ) → List ScheduleItem → RunAnswer
unfolding continue_run transition counted
run_from h t p d [] = record { number = 0; place = p; done = d; configuration = h; counters = t }
run_from h t p d (malformed n ∷ items) = record { number = n; place = p; done = d; configuration = h; counters = t }
run_from h t p d (entry e w ∷ items) =
    continue_run
    (transition h e)
    (λ n. record { number = n; place = p; done = d; configuration = h; counters = t })
    (λ r h'. run_from h' (counted r t) (p + w) (suc d) items)

unfoldable pub run : Configuration → Counters → List ℕ → RunAnswer
unfolding run_from schedule
run h t bs = run_from h t 0 0 (schedule bs)

-- ---- what was done

-- an entry done: by which rule, and the configurations before and after it
pub record Step : Type 0 where
  pub chosen : Entry
  pub rule : Rule
  pub before : Configuration
  pub result : Configuration

unfoldable pub continue_steps : Transition → (Rule → Configuration → List Step) → List Step
continue_steps (moved r h) next = next r h
continue_steps (refused n) next = []

-- the steps of a list of entries, up to the first refused
unfoldable pub steps : Configuration → List Entry → List Step
unfolding continue_steps transition
steps h [] = []
steps h (e ∷ es) =
    continue_steps (transition h e) (λ r h'. record { chosen = e; rule = r; before = h; result = h' } ∷ steps h' es)

-- the configuration that a list of steps leads to
abbrev pub final_configuration : Configuration → List Step → Configuration
final_configuration h [] = h
final_configuration h (s ∷ ss) = final_configuration s.result ss
