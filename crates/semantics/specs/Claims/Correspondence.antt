-- Demand 2 as types: what an accepted choice does is one reduction of the calculus, and no reduction within the limits
-- is without choices that do it. A reader believes these statements and the definitions that they name; the proofs
-- stand in the crate theorems.
-- Assumes nothing.
use Rattle.std.specs.Prelude.{ℕ, ◌≤◌, ◌≡◌, ◌↔◌, List, [], ◌∷◌, map, length, take}
use Rattle.std.proofs.Math.Option.{some}
use Rattle.std.proofs.Math.ListN.{get_elem?}
use Rattle.calculus.specs.Syntax.{Name, State, Process, par}
use Rattle.calculus.specs.State.{SameNames}
use Rattle.calculus.specs.Reduction.{Rule, OUT, Label, by, COM, EvolvesAt, Reduces, LogOrder, AnyOrder, outputs}
use Rattle.semantics.specs.Definitions.Basics.{Bytes, replace_at}
use Rattle.semantics.specs.Definitions.Terms.{Expression}
use Rattle.semantics.specs.Definitions.Table.{Table, accepted, read_table}
use Rattle.semantics.specs.Definitions.Configuration.{Tree, Component, transaction, Configuration, opening}
use Rattle.semantics.specs.Definitions.Stored.{WellFormed, bytes_of, hall_bytes}
use Rattle.semantics.specs.Definitions.Moves.{Entry, act, inside, moved, transition, effect_of, rule_number}
use Rattle.semantics.specs.Definitions.Run.{Counters, Step, run, steps, schedule, entries, InBytes, Quiescent}
use Rattle.semantics.specs.Claims.Denotation.{proc, ongoing_of, component_process, Denotes, in_order, WithinLimits}

-- the bytes are those of an accepted table
abbrev pub AcceptsTable : List ℕ → Table → Type 0
AcceptsTable bs t = Bytes bs × (read_table bs ≡ accepted t)

-- said of every accepted table and every hall that is well formed for it, also one that no run reached
abbrev pub EveryHall : (Table → Configuration → Type 0) → Type 0
EveryHall Q = (bs : List ℕ) (t : Table) → AcceptsTable bs t → (h : Configuration) → WellFormed t.terms h → Q t h

-- said of every choice e accepted on such a hall h, with the rule r that it answers and the hall g after it
abbrev pub EveryMove : (Table → Configuration → Entry → Rule → Configuration → Type 0) → Type 0
EveryMove Q = EveryHall (λ t h. (e : Entry) (r : Rule) (g : Configuration) → transition h e ≡ moved r g → Q t h e r g)

-- ---- what a hall stands for

-- a hall just opened stands for the start term
unfoldable pub OpeningDenotes : Type 0
unfolding proc opening
OpeningDenotes = (t : Table) → Denotes (proc t.start) (opening t).components

-- every list of components stands for some process: "whatever process a hall stands for", below, there is one
unfoldable pub EveryHallDenotes : Type 0
EveryHallDenotes = (cs : List Component) → (P : Process) × Denotes P cs

-- and in one order: the lists of components that a process stands for are those that are, as processes, its own from
-- left to right
unfoldable pub OneOrder : Type 0
unfolding component_process in_order
OneOrder = (P : Process) (cs : List Component) → Denotes P cs ↔ (map component_process cs ≡ in_order P)

-- ---- soundness

-- whatever process h stands for, one reduction by rule r, with Table 2 as printed, leads to a process that g stands for
unfoldable pub OneReduction : Configuration → Rule → Configuration → Type 0
OneReduction h r g =
    (P : Process) → Denotes P h.components →
    (P' : Process) × Reduces AnyOrder (by r) P h.counts P' g.counts × Denotes P' g.components

-- demand 2, first half: an accepted choice is one reduction
unfoldable pub Soundness : Type 0
unfolding OneReduction
Soundness = EveryMove (λ t h e r g. OneReduction h r g)

-- The reduction is that of the component which the choice names, and no other component changes. Kind 1: the
-- component at the position alone, as a process, reduces by one of the rules 1 to 7, with ATOK's outputs in log
-- order, and what that leads to stands in its place. Kind 2: the transaction there makes a step of Table 3 at the
-- node, and the counts stay.
unfoldable pub AtChosen : Configuration → Entry → Rule → Configuration → Type 0
unfolding component_process ongoing_of replace_at rule_number
AtChosen h (act p) r g =
    (c : Component) × (P' : Process) × (ds : List Component) × (get_elem? h.components p ≡ some c) ×
    Reduces LogOrder (by r) (component_process c) h.counts P' g.counts × (rule_number r ≤ 7) ×
    Denotes P' ds × (g.components ≡ replace_at p ds h.components)
AtChosen h (inside p k) r g =
    (n : ℕ) × (M : Expression) × (s : State) × (t : Tree) × (u : Tree) ×
    (get_elem? h.components p ≡ some (transaction n M s t)) × EvolvesAt k r (ongoing_of s t) (ongoing_of s u) ×
    (g.components ≡ replace_at p (transaction n M s u ∷ []) h.components) × (g.counts ≡ h.counts)

unfoldable pub Located : Type 0
unfolding AtChosen
Located = EveryMove (λ t h e r g. AtChosen h e r g)

-- log order is one of the orders in which Table 2 lets ATOK lay its outputs down
unfoldable pub LogOrderAsStated : Type 0
LogOrderAsStated =
    (l : Label) (P P' : Process) (σ σ' : State) → Reduces LogOrder l P σ P' σ' → Reduces AnyOrder l P σ P' σ'

-- what an accepted choice does is within the limits
unfoldable pub AcceptedIsWithinLimits : Type 0
unfolding WithinLimits
AcceptedIsWithinLimits =
    EveryMove (λ t h e r g.
    (P' : Process) → Denotes P' g.components → WithinLimits (by r) h.counts P' g.counts)

-- the second move of a COM on a: it takes one token of a and nothing else, as IN and REP do, and an ATOK whose log
-- reads that alone
unfoldable pub TakesOne : Name → Rule → Type 0
unfolding effect_of
TakesOne a r = (effect_of r).taken ≡ a ∷ []

-- an OUT and then such a move are together one COM, within the limits. OUT leaves nothing in its place, so the second
-- move is another component's.
unfoldable pub HandoverIsCOM : Type 0
unfolding TakesOne WithinLimits
HandoverIsCOM = EveryHall (λ t h.
    (a : Name) (e : Entry) (f : Configuration) → transition h e ≡ moved (OUT a) f →
    (d : Entry) (r : Rule) (g : Configuration) → transition f d ≡ moved r g → TakesOne a r →
    (P : Process) → Denotes P h.components →
    (P' : Process) × Reduces AnyOrder (COM a) P h.counts P' h.counts × (g.counts ≡ h.counts) ×
    Denotes P' g.components × WithinLimits (COM a) h.counts P' h.counts)

-- steps that lead from one configuration to another, each by an accepted choice that does one reduction, at its place
abbrev pub Chain : Configuration → List Step → Configuration → Type 0
Chain h [] g = h ≡ g
Chain h (s ∷ ss) g =
    (s.before ≡ h) × (transition s.before s.chosen ≡ moved s.rule s.result) ×
    OneReduction s.before s.rule s.result × AtChosen s.before s.chosen s.rule s.result ×
    Chain s.result ss g

-- the same of a run on a call's bytes: its steps are as many as its count of choices done, by the first so many
-- choices of the list, and they lead from the hall to what the run leaves
unfoldable pub RunSoundness : Type 0
unfolding run steps schedule entries
RunSoundness = EveryHall (λ t h.
    (c : Counters) (choices : List ℕ) →
    let list = entries (schedule choices) in
    let answer = run h c choices in
    let ss = steps h list in
    (length ss ≡ answer.done) × (map (λ s. s.chosen) ss ≡ take answer.done list) ×
    Chain h ss answer.configuration)

-- ---- completeness

-- one choice that answers the rule, or for COM two, all accepted, to a hall that stands for the result
unfoldable pub HasChoices : Label → Configuration → Process → State → Type 0
unfolding InBytes TakesOne
HasChoices (by r) h P' σ' =
    (e : Entry) × (g : Configuration) × InBytes e × (transition h e ≡ moved r g) ×
    (g.counts ≡ σ') × Denotes P' g.components
HasChoices (COM a) h P' σ' =
    (e : Entry) × (f : Configuration) × (d : Entry) × (r : Rule) × (g : Configuration) × InBytes e × InBytes d ×
    (transition h e ≡ moved (OUT a) f) × (transition f d ≡ moved r g) × TakesOne a r ×
    (g.counts ≡ σ') × Denotes P' g.components

-- demand 2, second half: no reduction within the limits is without its choices; ATOK's outputs in log order
unfoldable pub Completeness : Type 0
unfolding HasChoices WithinLimits
Completeness = EveryHall (λ t h.
    (P : Process) → Denotes P h.components → (l : Label) (P' : Process) (σ' : State) →
    Reduces LogOrder l P h.counts P' σ' → WithinLimits l h.counts P' σ' → HasChoices l h P' σ')

-- two processes that differ in the order of some outputs alone
pub data Reordered : Process → Process → Type 0 where
  unchanged : {P : Process} → Reordered P P
  shuffled : (bs cs : List Name) → SameNames bs cs → Reordered (outputs bs) (outputs cs)
  within : {P P' Q Q' : Process} → Reordered P P' → Reordered Q Q' → Reordered (par P Q) (par P' Q')

-- the same for ATOK as printed, with its outputs in any order: up to the order of those outputs
unfoldable pub CompletenessAnyOrder : Type 0
unfolding HasChoices WithinLimits
CompletenessAnyOrder = EveryHall (λ t h.
    (P : Process) → Denotes P h.components → (l : Label) (P' : Process) (σ' : State) →
    Reduces AnyOrder l P h.counts P' σ' → WithinLimits l h.counts P' σ' →
    (P'' : Process) × Reordered P' P'' × Reduces LogOrder l P h.counts P'' σ' × HasChoices l h P'' σ')

-- ---- still

-- where no choice is accepted no reduction within the limits exists
unfoldable pub StillIsStill : Type 0
unfolding Quiescent WithinLimits
StillIsStill = EveryHall (λ t h.
    Quiescent h → (P : Process) → Denotes P h.components → (l : Label) (P' : Process) (σ' : State) →
    Reduces AnyOrder l P h.counts P' σ' → WithinLimits l h.counts P' σ' → ⊥)

-- ---- well formed

-- an accepted choice keeps the hall well formed for its table, and its bytes are 11,344
unfoldable pub KeepsWellFormed : Type 0
unfolding bytes_of
KeepsWellFormed =
    EveryMove (λ t h e r g. WellFormed t.terms g × (length (bytes_of g) ≡ hall_bytes) × Bytes (bytes_of g))
