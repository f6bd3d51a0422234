-- An opening turn by turn: one more turn at the end of some, the whole opening after each, how wide the terms still to open
-- are, how many turns there are; and the calls that show them.
-- Assumes nothing.
use Prim.Native.Nat.{ℕ, zero, suc, ◌+◌, ◌-◌, ◌*◌, ◌≤◌}
use native.Mathlib.Omega.{arith}
use mathlib.Core.Path.{◌≡◌, refl, sym, ap, fun_ext, ◌∙◌}
use mathlib.Core.Logic.{◌↔◌}
use mathlib.Core.Option.{Option, none, some}
use mathlib.Core.List.{List, [], ◌∷◌, ◌++◌, map, flatten, append_assoc, append-nil}
use lib.ListN.{length, length-append}
use Rattle.semantics.specs.Definitions.Basics.{count_up}
use Rattle.semantics.specs.Definitions.Terms.{Program, nil_t, put_t, take_t, repeat_t, par_t, atom_t, width}
use Rattle.semantics.specs.Definitions.Table.{Table, TableAnswer, accepted, refused_at, read_table}
use Rattle.semantics.specs.Definitions.Configuration.{Idle, idle, opens, opening}
use Rattle.semantics.specs.Definitions.Calls.{rejected, check_table, table_verdict}
use Rattle.semantics.specs.Definitions.Turns.{turn, waiting_after, listed, laid_by, past_end, not_turned, show_next, turn_tested, turn_call}
use Rattle.semantics.specs.Claims.Turns.{opens_all, turns_to_go, leaning, shown_by, left_by, LaidThenWaiting, TurnsFall, TurnsEnd, WaitingFits, StackSuffices, LeaningNeedsItsWidth, CallsShowTurns, CallsShowTheOpening, OneATurn, TurnsRefusedAsChecked}
use Rattle.semantics.specs.Checks.Conditions.{RefusalNumbers}
use Rattle.theorems.specs.Widths.{widths}
use Rattle.theorems.proofs.FirstElements.{blocks_grow}
use Rattle.theorems.proofs.GoodTable.{accepted_is_good}
use Rattle.theorems.proofs.HallConditions.{refusal_numbers}

-- ---- one turn

-- a process is one wide or more
pub width_some : (P : Program) → 1 ≤ width P
unfolding width
width_some (nil_t n) = omega arith
width_some (put_t n a) = omega arith
width_some (take_t n a P) = omega arith
width_some (repeat_t n a P) = omega arith
width_some (par_t n P Q) = let p = width_some P in omega arith
width_some (atom_t n M) = omega arith

-- what a turn lays down, and what it leaves open, are what was open
turn_opens : (P : Program) (Ps : List Program) → listed (turn P Ps).laid ++ opens_all (turn P Ps).waiting ≡ opens_all (P ∷ Ps)
unfolding turn listed opens flatten
turn_opens (nil_t n) Ps = refl
turn_opens (put_t n a) Ps = refl
turn_opens (take_t n a P) Ps = refl
turn_opens (repeat_t n a P) Ps = refl
turn_opens (par_t n P Q) Ps = sym (append_assoc (opens P) (opens Q) (opens_all Ps))
turn_opens (atom_t n M) Ps = refl

-- what it lays down is as wide as the term or narrower, with what it leaves
turn_narrows : (P : Program) (Ps : List Program) →
    length (listed (turn P Ps).laid) + widths (turn P Ps).waiting ≤ widths (P ∷ Ps)
unfolding turn listed widths width
turn_narrows (nil_t n) Ps = omega arith
turn_narrows (put_t n a) Ps = omega arith
turn_narrows (take_t n a P) Ps = omega arith
turn_narrows (repeat_t n a P) Ps = omega arith
turn_narrows (par_t n P Q) Ps = omega arith
turn_narrows (atom_t n M) Ps = omega arith

pub turns_fall : TurnsFall
unfolding TurnsFall turn turns_to_go width
turns_fall (nil_t n) Ps = omega arith
turns_fall (put_t n a) Ps = omega arith
turns_fall (take_t n a P) Ps = omega arith
turns_fall (repeat_t n a P) Ps = omega arith
turns_fall (par_t n P Q) Ps = let p = width_some P in let q = width_some Q in omega arith
turns_fall (atom_t n M) Ps = omega arith

-- ---- many turns

-- with nothing left to open a turn changes nothing
none_waiting : (n : ℕ) → waiting_after n [] ≡ []
unfolding waiting_after
none_waiting zero = refl
none_waiting (suc n) = refl

none_at_most : (n : ℕ) → laid_by n [] ≡ []
unfolding laid_by
none_at_most zero = refl
none_at_most (suc n) = refl

-- some turns, and k more: m in all
waiting_sum : (n k m : ℕ) → m ≡ n + k → (Ps : List Program) → waiting_after m Ps ≡ waiting_after k (waiting_after n Ps)
unfolding waiting_after
waiting_sum zero k m e Ps = let z : m ≡ k = omega arith in ap (λ j. waiting_after j Ps) z
waiting_sum (suc n) k zero e Ps = absurd (omega arith)
waiting_sum (suc n) k (suc m) e [] = sym (none_waiting k)
waiting_sum (suc n) k (suc m) e (P ∷ Ps) = waiting_sum n k m (omega arith) (turn P Ps).waiting

laid_sum : (n k m : ℕ) → m ≡ n + k → (Ps : List Program) → laid_by m Ps ≡ laid_by n Ps ++ laid_by k (waiting_after n Ps)
unfolding waiting_after laid_by
laid_sum zero k m e Ps = let z : m ≡ k = omega arith in ap (λ j. laid_by j Ps) z
laid_sum (suc n) k zero e Ps = absurd (omega arith)
laid_sum (suc n) k (suc m) e [] = sym (none_at_most k)
laid_sum (suc n) k (suc m) e (P ∷ Ps) =
    let first = listed (turn P Ps).laid in
    ap (◌++◌ first) (laid_sum n k m (omega arith) (turn P Ps).waiting) ∙ sym (append_assoc first (laid_by n (turn P Ps).waiting) _)

-- one more, with these terms still to open
module _ (n : ℕ) (Qs : List Program) (P : Program) (Ps : List Program) (e : waiting_after n Qs ≡ P ∷ Ps) where
  pub waiting_more : waiting_after (suc n) Qs ≡ (turn P Ps).waiting
  unfolding waiting_after
  waiting_more = waiting_sum n 1 (suc n) (omega arith) Qs ∙ ap (waiting_after 1) e

  pub laid_more : laid_by (suc n) Qs ≡ laid_by n Qs ++ listed (turn P Ps).laid
  unfolding laid_by
  laid_more =
      laid_sum n 1 (suc n) (omega arith) Qs
      ∙ ap (λ Rs. laid_by n Qs ++ laid_by 1 Rs) e
      ∙ ap (◌++◌ (laid_by n Qs)) (append-nil (listed (turn P Ps).laid))

-- any number more, with nothing still to open
module _ (n m : ℕ) (Qs : List Program) (e : waiting_after n Qs ≡ []) (h : n ≤ m) where
  pub waiting_ended : waiting_after m Qs ≡ []
  waiting_ended = waiting_sum n (m - n) m (omega arith) Qs ∙ ap (waiting_after (m - n)) e ∙ none_waiting (m - n)

  pub laid_ended : laid_by m Qs ≡ laid_by n Qs
  laid_ended =
      laid_sum n (m - n) m (omega arith) Qs
      ∙ ap (λ Rs. laid_by n Qs ++ laid_by (m - n) Rs) e
      ∙ ap (◌++◌ (laid_by n Qs)) (none_at_most (m - n))
      ∙ append-nil (laid_by n Qs)

-- ---- the whole opening

one_at_most : (Ps : List Program) → length (laid_by 1 Ps) ≤ 1
unfolding laid_by listed
one_at_most [] = omega arith
one_at_most (P ∷ Ps) = go (turn P Ps).laid
  where
    go : (c : Option Idle) → length (listed c ++ []) ≤ 1
    go none = omega arith
    go (some c) = omega arith

pub laid_then_waiting : LaidThenWaiting
unfolding LaidThenWaiting laid_by waiting_after
laid_then_waiting Ps zero = refl
laid_then_waiting [] (suc n) = refl
laid_then_waiting (P ∷ Ps) (suc n) =
    append_assoc (listed (turn P Ps).laid) (laid_by n (turn P Ps).waiting) _
    ∙ ap (◌++◌ (listed (turn P Ps).laid)) (laid_then_waiting (turn P Ps).waiting n)
    ∙ turn_opens P Ps

pub one_a_turn : OneATurn
unfolding OneATurn
one_a_turn Ps n =
    let l = length-append (laid_by n Ps) (laid_by 1 (waiting_after n Ps)) in
    let h = one_at_most (waiting_after n Ps) in
    let z : length (laid_by (suc n) Ps) ≡ length (laid_by n Ps ++ laid_by 1 (waiting_after n Ps)) = ap length (laid_sum n 1 (suc n) (omega arith) Ps) in omega arith

-- ---- what waits

-- what is laid down, with the width of what is left, is within the width
pub waiting_narrow : (n : ℕ) (Ps : List Program) → length (laid_by n Ps) + widths (waiting_after n Ps) ≤ widths Ps
unfolding laid_by waiting_after
waiting_narrow zero Ps = omega arith
waiting_narrow (suc n) [] = omega arith
waiting_narrow (suc n) (P ∷ Ps) =
    let h = waiting_narrow n (turn P Ps).waiting in
    let g = turn_narrows P Ps in
    let l = length-append (listed (turn P Ps).laid) (laid_by n (turn P Ps).waiting) in omega arith

-- no more terms than they are wide
pub terms_narrow : (Ps : List Program) → length Ps ≤ widths Ps
unfolding widths
terms_narrow [] = omega arith
terms_narrow (P ∷ Ps) = let h = width_some P in let g = terms_narrow Ps in omega arith

pub alone_wide : (P : Program) → widths (P ∷ []) ≡ width P
unfolding widths
alone_wide P = omega arith

pub waiting_fits : WaitingFits
unfolding WaitingFits
waiting_fits P n =
    let h = waiting_narrow n (P ∷ []) in
    let g = terms_narrow (waiting_after n (P ∷ [])) in
    let w = alone_wide P in omega arith

pub stack_suffices : StackSuffices
unfolding StackSuffices WaitingFits
stack_suffices table t a i P e n =
    let h = waiting_fits P n in
    let g = (accepted_is_good table t a).limits i _ e in omega arith

pub leaning_needs_its_width : LeaningNeedsItsWidth
unfolding LeaningNeedsItsWidth waiting_after width leaning turn
leaning_needs_its_width n = (wide n, let h = waits n [] in omega arith)
  where
    wide : (n : ℕ) → width (leaning n) ≡ suc n
    wide zero = refl
    wide (suc n) = let h = wide n in omega arith

    waits : (n : ℕ) (Ps : List Program) → length (waiting_after n (leaning n ∷ Ps)) ≡ suc n + length Ps
    waits zero Ps = omega arith
    waits (suc n) Ps = let h = waits n (put_t 0 0 ∷ Ps) in omega arith

-- ---- how many turns

-- each takes one, until none is left
turns_counted : (n : ℕ) (Ps : List Program) → turns_to_go (waiting_after n Ps) ≡ turns_to_go Ps - n
unfolding waiting_after turns_to_go TurnsFall
turns_counted zero Ps = omega arith
turns_counted (suc n) [] = omega arith
turns_counted (suc n) (P ∷ Ps) = let h = turns_counted n (turn P Ps).waiting in let g = turns_fall P Ps in omega arith

no_turns : (Ps : List Program) → turns_to_go Ps ≡ 0 → Ps ≡ []
unfolding turns_to_go
no_turns [] e = refl
no_turns (P ∷ Ps) e = let h = width_some P in absurd (omega arith)

alone_turns : (P : Program) → turns_to_go (P ∷ []) ≡ 2 * width P - 1
unfolding turns_to_go
alone_turns P = omega arith

-- nothing waits, exactly from so many turns on
pub ends : (P : Program) (n : ℕ) → (waiting_after n (P ∷ []) ≡ []) ↔ (2 * width P - 1 ≤ n)
unfolding turns_to_go
ends P n =
    let c = turns_counted n (P ∷ []) in
    let a = alone_turns P in
    (λ e. let z : turns_to_go (waiting_after n (P ∷ [])) ≡ 0 = ap turns_to_go e in omega arith, λ h. no_turns _ (omega arith))

-- and then the whole opening is laid down
pub all_laid : (P : Program) (n : ℕ) → 2 * width P - 1 ≤ n → laid_by n (P ∷ []) ≡ opens P
unfolding flatten LaidThenWaiting
all_laid P n h =
    let e = (ends P n).1 h in
    sym (append-nil (laid_by n (P ∷ [])))
    ∙ ap (λ Ps. laid_by n (P ∷ []) ++ opens_all Ps) (sym e)
    ∙ laid_then_waiting (P ∷ []) n
    ∙ append-nil (opens P)

pub turns_end : TurnsEnd
unfolding TurnsEnd
turns_end P n = (ends P n, all_laid P n)

-- ---- the calls

-- what the next turn shows
next_shown : (Ps : List Program) → shown_by (show_next Ps) ≡ laid_by 1 Ps
unfolding shown_by show_next laid_by
next_shown [] = refl
next_shown (P ∷ Ps) = sym (append-nil (listed (turn P Ps).laid))

all_shown : (P : Program) (n : ℕ) → flatten (map (λ k. shown_by (show_next (waiting_after k (P ∷ [])))) (count_up 0 n)) ≡ laid_by n (P ∷ [])
unfolding laid_by count_up flatten
all_shown P zero = refl
all_shown P (suc n) =
    (blocks_grow (λ k. shown_by (show_next (waiting_after k (P ∷ []))))).grows n
    ∙ ap (λ cs. cs ++ shown_by (show_next (waiting_after n (P ∷ [])))) (all_shown P n)
    ∙ ap (◌++◌ (laid_by n (P ∷ []))) (next_shown (waiting_after n (P ∷ [])))
    ∙ sym (laid_sum n 1 (suc n) (omega arith) (P ∷ []))

next_past : (Ps : List Program) → show_next Ps ≡ past_end → Ps ≡ []
unfolding show_next
next_past [] e = refl
next_past (P ∷ Ps) e = absurd (let z : ◌≡◌ {A = ℕ} 0 1 = cc in omega arith)

-- the call of an accepted table, and of a refused one
accepted_turns : (table : List ℕ) (t : Table) → read_table table ≡ accepted t → (n : ℕ) →
    turn_call table n ≡ show_next (waiting_after n (t.start ∷ []))
unfolding turn_call turn_tested
accepted_turns table t e n = ap (turn_tested n) e

next_left : (Ps : List Program) → left_by (show_next Ps) ≡ length (waiting_after 1 Ps)
unfolding left_by show_next waiting_after
next_left [] = refl
next_left (P ∷ Ps) = refl

pub calls_show_turns : CallsShowTurns
unfolding CallsShowTurns show_next
calls_show_turns table t a n =
    let call = accepted_turns table t a n in
    let left = waiting_after n (t.start ∷ []) in (
      laid_sum n 1 (suc n) (omega arith) (t.start ∷ []) ∙ ap (◌++◌ (laid_by n (t.start ∷ []))) (sym (ap shown_by call ∙ next_shown left)),
      ap left_by call ∙ next_left left ∙ ap length (sym (waiting_sum n 1 (suc n) (omega arith) (t.start ∷ []))),
      (λ e. (ends t.start n).0 (next_past left (sym call ∙ e)), λ h. call ∙ ap show_next ((ends t.start n).1 h)),
    )

pub calls_show_the_opening : CallsShowTheOpening
unfolding CallsShowTheOpening opening
calls_show_the_opening table t a =
    let turns = 2 * width t.start - 1 in
    ap (λ answer. map idle (flatten (map (λ n. shown_by (answer n)) (count_up 0 turns)))) (fun_ext (accepted_turns table t a))
    ∙ ap (map idle) (all_shown t.start turns ∙ all_laid t.start turns (omega arith))

pub turns_refused_as_checked : TurnsRefusedAsChecked
unfolding TurnsRefusedAsChecked RefusalNumbers check_table turn_call turn_tested table_verdict show_next
turns_refused_as_checked table n k p = let same = go (read_table table) in (same, λ e. (refusal_numbers table [] k p).0 (same.0 e))
  where
    next_not_refused : (Ps : List Program) → show_next Ps ≡ not_turned k p → ⊥
    next_not_refused [] e = let z : ◌≡◌ {A = ℕ} 0 1 = cc in omega arith
    next_not_refused (P ∷ Ps) e = let z : ◌≡◌ {A = ℕ} 0 1 = cc in omega arith

    go : (a : TableAnswer) → (turn_tested n a ≡ not_turned k p) ↔ (table_verdict a ≡ rejected k p)
    go (accepted t) = (λ e. absurd (next_not_refused (waiting_after n (t.start ∷ [])) e), λ e. absurd (let z : ◌≡◌ {A = ℕ} 0 1 = cc in omega arith))
    go (refused_at m q) = (λ e. cc, λ e. cc)
