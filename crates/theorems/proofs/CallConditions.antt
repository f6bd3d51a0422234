-- A run as a call: turned down under the conditions 1 to 11, with nothing touched, and else the run on the stored hall.
-- Assumes nothing.
use Prim.Native.Nat.{ℕ, ◌≤◌}
use native.Mathlib.Omega.{arith}
use mathlib.Core.Path.{◌≡◌, refl, ap, ◌∙◌}
use mathlib.Core.Logic.{◌↔◌}
use mathlib.Core.List.{List, []}
use lib.ListN.{length, drop, length-drop, drop_of_length-le}
use Rattle.semantics.specs.Definitions.Table.{Table}
use Rattle.semantics.specs.Definitions.Configuration.{Configuration}
use Rattle.semantics.specs.Definitions.Moves.{Entry, act, inside}
use Rattle.semantics.specs.Definitions.Run.{RunAnswer, run}
use Rattle.semantics.specs.Definitions.Calls.{Admission, admitted, not_admitted, admission, run_result, run_admitted, run_call}
use Rattle.semantics.specs.Checks.Conditions.{HallAccepted, HallNumbers, RefusalNumbers, ChoiceCondition, no_station, no_station_inside, unsettled, no_attempt, no_node, no_rule_there, in_empty, rep_empty, in_many, rep_many, commit_many, out_full, Stops, at_end_holds, kind_neither, act_short, inside_short, node_short, act_refused, inside_refused, RunStops, RunNumbers, OneReason, RunCallNumbers, RunCallZero}
use Rattle.theorems.proofs.HallConditions.{accepted_read, hall_numbers, refusal_numbers}
use Rattle.theorems.proofs.RunConditions.{run_numbers, one_reason}

pub run_call_numbers : RunCallNumbers
unfolding RunCallNumbers HallNumbers RunNumbers run_call run_admitted run_result
run_call_numbers table l bs table_bytes hall_bytes_holds =
    let (turned, admits) = hall_numbers table l.hall table_bytes hall_bytes_holds in (
      λ n p c. ap (run_admitted l bs) ((turned n p).1 c),
      λ t h c. (
        run_numbers table t (table_bytes, accepted_read table t c.0) h c.1 l.counters bs,
        ap (run_admitted l bs) ((admits t h).1 c),
      ),
    )

-- ---- number 0

-- the conditions of a choice have the numbers 14 to 20
pub choice_range : (h : Configuration) (n : ℕ) (e : Entry) → ChoiceCondition h n e → (14 ≤ n) × (n ≤ 20)
choice_range h n e (no_station a) = (omega arith, omega arith)
choice_range h n e (no_station_inside a) = (omega arith, omega arith)
choice_range h n e (unsettled m M s t a b) = (omega arith, omega arith)
choice_range h n e (no_attempt c a) = (omega arith, omega arith)
choice_range h n e (no_node m M s t a b) = (omega arith, omega arith)
choice_range h n e (no_rule_there m M s t u a b c) = (omega arith, omega arith)
choice_range h n e (in_empty m a P b c) = (omega arith, omega arith)
choice_range h n e (rep_empty m a P b c) = (omega arith, omega arith)
choice_range h n e (in_many m a P b c) = (omega arith, omega arith)
choice_range h n e (rep_many m a P b c) = (omega arith, omega arith)
choice_range h n e (commit_many m M s k δ a b c) = (omega arith, omega arith)
choice_range h n e (out_full a b c) = (omega arith, omega arith)

-- a run stops with it at the end of its bytes and nowhere else
zero_ends : (h : Configuration) (n : ℕ) (bs : List ℕ) → Stops h n bs → n ≡ 0 → bs ≡ []
zero_ends h n bs at_end_holds e = refl
zero_ends h n bs (kind_neither a b) e = absurd (omega arith)
zero_ends h n bs act_short e = absurd (omega arith)
zero_ends h n bs inside_short e = absurd (omega arith)
zero_ends h n bs node_short e = absurd (omega arith)
zero_ends h n bs (act_refused {p = p} f) e = absurd (let z = (choice_range h n (act p) f.0).0 in omega arith)
zero_ends h n bs (inside_refused {p = p} {k} f) e =
    absurd (let z = (choice_range h n (inside p k) f.0).0 in omega arith)

-- a run that stops has its reason: where its number is 0 its place is the end, and the other way round
done_all : (bs : List ℕ) (a : RunAnswer) → RunStops bs a → (a.number ≡ 0) ↔ (a.place ≡ length bs)
unfolding OneReason
done_all bs a s = (to_end, from_end)
  where
    to_end : a.number ≡ 0 → a.place ≡ length bs
    to_end e =
        let fits = s.inside_bytes in
        let left = length-drop a.place bs in
        let none : length (drop a.place bs) ≡ 0 =
        ap length (zero_ends a.configuration a.number (drop a.place bs) s.reason e) in
        omega arith

    from_end : a.place ≡ length bs → a.number ≡ 0
    from_end e =
        let past : length bs ≤ a.place = omega arith in
        one_reason a.configuration [] a.number 0 (rw (drop_of_length-le bs past) at s.reason) at_end_holds

pub run_call_zero : RunCallZero
unfolding RunCallZero RunCallNumbers HallNumbers RefusalNumbers run_call run_admitted run_result
run_call_zero table l bs table_bytes hall_bytes_holds = (from_zero (admission table l.hall) refl, to_zero)
  where
    Whole : Type 0
    Whole = (t : Table) × (h : Configuration) × HallAccepted table l.hall t h ×
        ((run h l.counters bs).place ≡ length bs)

    ends : (t : Table) (h : Configuration) → HallAccepted table l.hall t h →
        ((run h l.counters bs).number ≡ 0) ↔ ((run h l.counters bs).place ≡ length bs)
    ends t h c =
        done_all bs (run h l.counters bs) ((run_call_numbers table l bs table_bytes hall_bytes_holds).1 t h c).0

    from_zero : (a : Admission) → admission table l.hall ≡ a → (run_admitted l bs a).number ≡ 0 → Whole
    from_zero (not_admitted n p) f z = absurd (let y = (refusal_numbers table l.hall n p).3 f in omega arith)
    from_zero (admitted t h) f z =
        let c = ((hall_numbers table l.hall table_bytes hall_bytes_holds).1 t h).0 f in (t, h, c, (ends t h c).0 z)

    to_zero : Whole → (run_call table l bs).number ≡ 0
    to_zero (t, h, c, place) =
        ap (λ a. a.number) ((run_call_numbers table l bs table_bytes hall_bytes_holds).1 t h c).1 ∙ (ends t h c).1 place
