-- A turn that is shown: after the turns before it nothing waits, or one more turn is made and what it laid down is read
-- back.
-- Assumes nothing.
use Prim.Native.Nat.{ℕ, ◌+◌, ◌*◌, ◌≤◌}
use native.Mathlib.Omega.{arith}
use mathlib.Core.Path.{◌≡◌, refl, ap, ◌∙◌}
use mathlib.Core.Option.{Option, none, some}
use mathlib.Core.List.{List, [], ◌∷◌, flatten, append-nil}
use lib.ListN.{length, get_or}
use Rattle.semantics.specs.Definitions.Terms.{Program, Term}
use Rattle.semantics.specs.Definitions.Configuration.{Idle, idle}
use Rattle.semantics.specs.Definitions.Stored.{component_bytes}
use Rattle.semantics.specs.Definitions.Turns.{turn, waiting_after, listed, lays, show_next}
use Rattle.theorems.specs.Widths.{widths}
use Rattle.theorems.proofs.Turns.{width_some}
use Rattle.table_terms.specs.Decoded.{Decoded, AProcess}
use Rattle.buffer.proofs.Written.{written_inside}
use Rattle.hall_layout.specs.Layout.{idle_size, max_components}
use Rattle.hall_laws.specs.Positions.{all_bytes}
use Rattle.std.specs.Prelude as std
use Rattle.answers.specs.declared.turns.Turn.{Turn}
use Rattle.hall_open.specs.Opening.{idle_bytes}
use Rattle.hall_open.specs.Turns.{WaitingTerms, LaidDown, CanTurn, TurnMade, TurnsMade, TurnShown}
use Rattle.answers.specs.Answers.{kind_in, body_in, TurnIs}
use Rattle.hall_open.proofs.Processes.{idle_length}
use Rattle.hall_open.proofs.Stack.{waiting_length, turns_long, can_turn}
use Rattle.hall_open.proofs.Opening.{process_fits}

-- a component that was laid down is read back
laid_read : (c : Idle) (hall : List ℕ) (at : ℕ) (hall' : List ℕ) (end : ℕ) → LaidDown (c ∷ []) hall at hall' end → at + idle_size ≤ length hall →
    (get_or hall' at 0 ≡ kind_in c) × (get_or hall' (at + 1) 0 ≡ body_in c)
unfolding idle_bytes all_bytes flatten kind_in body_in
laid_read c hall at hall' end l h =
    let v = idle_bytes (c ∷ []) in
    let two = idle_length (c ∷ []) in
    let alone = append-nil (component_bytes (idle c)) in
    let first : at ≡ at + 0 = omega arith in (
      ap (λ j. get_or hall' j 0) first ∙ rw l.bytes (written_inside hall at v (length v) 0 (omega arith) (omega arith) (omega arith)) ∙ ap (λ w. get_or w 0 0) alone,
      rw l.bytes (written_inside hall at v (length v) 1 (omega arith) (omega arith) (omega arith)) ∙ ap (λ w. get_or w 1 0) alone,
    )

-- ---- what is shown

module _ (d : List ℕ) (i number : ℕ) (hall₀ : List ℕ) (from : ℕ) (stack : List ℕ) (n v u : ℕ) (hall : List ℕ) (at : ℕ)
    (y : TurnsMade d i number hall₀ from stack n v u hall at) where
  pub past_shown : n ≡ 0 → TurnShown d i number std.None
  unfolding show_next
  past_shown h = record { found = λ ts P u e. go ts (waiting_after number (P ∷ [])) (y.found ts P u e).0 }
    where
      go : (ts : List Term) (Ps : List Program) → WaitingTerms ts stack n Ps → TurnIs (show_next Ps) (std.Ok std.None)
      go ts [] w = refl
      go ts (P ∷ Ps) w = let z = w.1 in absurd (omega arith)

  -- the next turn can be made, and a component fits where it would lay one down
  module _ (x : AProcess d i) (room : from + idle_size * max_components ≤ length hall₀) (h : n ≡ 0 → ⊥) where
    pub can_show : CanTurn d stack n v u hall at
    can_show = can_turn d i hall₀ from (process_fits d i hall₀ from x room) number stack n v u hall at y h

    pub room_shown : at + idle_size ≤ length hall₀
    unfolding widths
    room_shown =
        let f = can_show.fits in
        let w = width_some can_show.next in
        let l = turns_long d i hall₀ from (process_fits d i hall₀ from x room) number stack n v u hall at y in omega arith

  module _ (h : n ≡ 0 → ⊥) (stack' : List ℕ) (n' v' u' : ℕ) (hall' : List ℕ) (end : ℕ) (z : TurnMade d stack n hall at stack' n' v' u' hall' end) where
    -- what the next turn shows, by the one that is made
    shows : (r : std.Option Turn) →
        ((c : Option Idle) (m : ℕ) → n' ≡ m → LaidDown (listed c) hall at hall' end → TurnIs (lays c m) (std.Ok r)) → TurnShown d i number r
    unfolding show_next
    shows r law = record { found = λ ts P u e. go ts u (waiting_after number (P ∷ [])) (y.found ts P u e).0 }
      where
        go : (ts : List Term) → Decoded ts d → (Ps : List Program) → WaitingTerms ts stack n Ps → TurnIs (show_next Ps) (std.Ok r)
        go ts u [] w = absurd (h w)
        go ts u (P ∷ Ps) w =
            let next = z.found ts P Ps u w in
            law (turn P Ps).laid (length (turn P Ps).waiting) (waiting_length ts stack' n' (turn P Ps).waiting next.0) next.1

    pub nothing_shown : end ≡ at → TurnShown d i number (std.Some (record { laid = std.None; left = n' }))
    unfolding listed
    nothing_shown same = shows (std.Some (record { laid = std.None; left = n' })) go
      where
        go : (c : Option Idle) (m : ℕ) → n' ≡ m → LaidDown (listed c) hall at hall' end → TurnIs (lays c m) (std.Ok (std.Some (record { laid = std.None; left = n' })))
        go none m e l = rw e
        go (some c) m e l = let two = idle_length (c ∷ []) in let to = l.end in absurd (omega arith)

    pub component_shown : (end ≡ at → ⊥) → at + idle_size ≤ length hall → (k : ℕ) → k ≡ get_or hall' at 0 → (b : ℕ) → b ≡ get_or hall' (at + 1) 0 →
        TurnShown d i number (std.Some (record { laid = std.Some (record { kind = k; body = b }); left = n' }))
    unfolding listed idle_bytes all_bytes flatten
    component_shown apart room k p b q = shows (std.Some (record { laid = std.Some (record { kind = k; body = b }); left = n' })) go
      where
        go : (c : Option Idle) (m : ℕ) → n' ≡ m → LaidDown (listed c) hall at hall' end → TurnIs (lays c m) (std.Ok (std.Some (record { laid = std.Some (record { kind = k; body = b }); left = n' })))
        go none m e l = let to = l.end in absurd (apart (omega arith))
        go (some c) m e l =
            let read = laid_read c hall at hall' end l room in
            rw (e, p ∙ read.0, q ∙ read.1)
