-- The cases of what a turn of an opening answers, as numbers.
-- Assumes nothing.
use Prim.Native.Nat.{ℕ}
use mathlib.Core.Path.{◌≡◌, refl, sym, ap, subst, ◌∙◌}
use mathlib.Core.Option.{none, some}
use mathlib.Core.List.{[], ◌∷◌}
use Rattle.semantics.specs.Definitions.Configuration.{Idle, taking, repeating, block, output, idle}
use Rattle.semantics.specs.Definitions.Stored.{component_bytes}
use Rattle.semantics.specs.Definitions.Turns.{TurnAnswer, lays, past_end, not_turned}
use Rattle.semantics.specs.Claims.Turns.{left_by}
use Rattle.std.specs.Prelude.{Option, Some, None, Result, Ok, Err}
use Rattle.answers.specs.declared.refusals.Refusal.{Refusal}
use Rattle.answers.specs.declared.turns.Station.{Station}
use Rattle.answers.specs.declared.turns.Turn.{Turn}
use Rattle.answers.specs.Answers.{reason_number, kind_in, body_in, TurnIs}
use Rattle.answers.specs.Answered.{TurnAnswered, TurnTold}
use Rattle.answers.specs.Claims.{RefusedTold, PastTold, NothingTold, PutTold}

-- a component's two bytes are all that it has
two_bytes : (c : Idle) → kind_in c ∷ body_in c ∷ [] ≡ component_bytes (idle c)
unfolding kind_in body_in component_bytes
two_bytes (taking n a P) = refl
two_bytes (repeating n a P) = refl
two_bytes (block n M) = refl
two_bytes (output a) = refl

-- what is set for each case of the code's answer tells the answer of the definitions
abbrev ToldLaid : Option Station → ℕ → TurnAnswer → Type 0
ToldLaid (Some s) n v = TurnAnswered v 0 0 1 (s.kind ∷ s.body ∷ []) n
ToldLaid None n v = TurnAnswered v 0 0 0 (0 ∷ 0 ∷ []) n

abbrev Told : Result (Option Turn) Refusal → TurnAnswer → Type 0
Told (Ok (Some t)) v = ToldLaid t.laid t.left v
Told (Ok None) v = TurnAnswered v 0 0 2 (0 ∷ 0 ∷ []) 0
Told (Err e) v = TurnAnswered v (reason_number e.reason) e.place 0 (0 ∷ 0 ∷ []) 0

told : (v : TurnAnswer) (a : Result (Option Turn) Refusal) → TurnIs v a → Told a v
unfolding left_by
told (lays (some c) n) a q =
    subst (λ x. Told x (lays (some c) n)) (sym q)
    (record { number = refl; place = refl; laid_down_holds = refl; bytes = two_bytes c; left_open = refl })
told (lays none n) a q =
    subst (λ x. Told x (lays none n)) (sym q)
    (record { number = refl; place = refl; laid_down_holds = refl; bytes = refl; left_open = refl })
told past_end a q =
    subst (λ x. Told x past_end) (sym q)
    (record { number = refl; place = refl; laid_down_holds = refl; bytes = refl; left_open = refl })
told (not_turned n p) a (e, q, number, place) =
    subst (λ x. Told x (not_turned n p)) (sym q)
    (record { number = number; place = place; laid_down_holds = refl; bytes = refl; left_open = refl })

-- by the case that the code answers
module _ (a : Result (Option Turn) Refusal) where
  by_case : (b : Result (Option Turn) Refusal) → a ≡ b → (v : TurnAnswer) → TurnIs v a → Told b v
  by_case b q v e = subst (λ x. Told x v) q (told v a e)

  module _ (o : Option Turn) (q : a ≡ Ok o) where
    laid : (t : Turn) → o ≡ Some t → (l : Option Station) → t.laid ≡ l → (v : TurnAnswer) → TurnIs v a → ToldLaid l t.left v
    laid t s l e v h = subst (λ x. ToldLaid x t.left v) e (by_case (Ok (Some t)) (q ∙ ap Ok s) v h)

    pub turn_laid_holds : (t : Turn) → o ≡ Some t → (n : Station) → t.laid ≡ Some n →
        TurnTold a 0 0 1 (n.kind ∷ n.body ∷ []) t.left
    turn_laid_holds t s n e = record { told = laid t s (Some n) e }

    pub turn_laid_nothing : (t : Turn) → o ≡ Some t → t.laid ≡ None → TurnTold a 0 0 0 (0 ∷ 0 ∷ []) t.left
    turn_laid_nothing t s e = record { told = laid t s None e }

    pub turn_past : o ≡ None → TurnTold a 0 0 2 (0 ∷ 0 ∷ []) 0
    turn_past s = record { told = by_case (Ok None) (q ∙ ap Ok s) }

  pub turn_turned_down : (e : Refusal) → a ≡ Err e → (n : ℕ) → n ≡ reason_number e.reason →
      TurnTold a n e.place 0 (0 ∷ 0 ∷ []) 0
  turn_turned_down e q n by = record { told = λ v h. rw by (by_case (Err e) q v h) }

-- ---- what C is told, case by case

pub refused_told : RefusedTold
unfolding left_by
refused_told returned place laid station left n p t = (t.number, t.place, t.laid_down_holds, t.bytes, t.left_open)

pub past_told : PastTold
unfolding left_by
past_told returned place laid station left t = (t.number, t.place, t.laid_down_holds, t.bytes, t.left_open)

pub nothing_told : NothingTold
unfolding left_by
nothing_told returned place laid station left n t = (t.number, t.place, t.laid_down_holds, t.bytes, t.left_open)

pub put_told : PutTold
unfolding left_by component_bytes
put_told returned place laid station left a n t = (t.number, t.place, t.laid_down_holds, t.bytes, t.left_open)
