-- Worked rows for Claims/Denotation: the process of a term that has every kind of process and expression in it, that of
-- an attempt with a fork, and the components that small processes stand for. Proved in proofs/DenotationExamples.
-- Assumes nothing.
use Rattle.std.specs.Prelude.{◌≡◌, [], ◌∷◌}
use Rattle.calculus.specs.Syntax.{rd, wt, Expr, end, retry, prefix, or_else, running, or_else', nil, out, inp, rep, par, atom, ongoing}
use Rattle.semantics.specs.Definitions.Terms.{Expression, end_t, retry_t, rd_t, wt_t, or_else_t, Program, nil_t, put_t, take_t, repeat_t, par_t, atom_t}
use Rattle.semantics.specs.Definitions.Configuration.{output, taking, leaf, fork, Component, idle, transaction}
use Rattle.semantics.specs.Claims.Denotation.{proc, component_process, Denotes}

-- rd 1.end or_else wt 2.retry; and a put, beside it a take that a repeated take of nil follows, beside that the block
abbrev expression : Expression
expression = or_else_t 4 (rd_t 2 1 (end_t 0)) (wt_t 3 2 (retry_t 1))

abbrev program : Program
program = par_t 11 (put_t 5 3) (par_t 10 (take_t 8 4 (repeat_t 7 5 (nil_t 6))) (atom_t 9 expression))

-- the same in the calculus
abbrev in_calculus : Expr
in_calculus = or_else (prefix (rd 1) end) (prefix (wt 2) retry)

-- a station about to put, and one that waits to take
abbrev pub putting : Component
putting = idle (output 3)

abbrev pub waiting : Component
waiting = idle (taking 8 4 (nil_t 6))

pub record DenotationExamples : Type 0 where
  pub term : proc program ≡ par (out 3) (par (inp 4 (rep 5 nil)) (atom in_calculus))
  -- its attempt after the fork, the left side's read logged, begun with one token in tray 1
  pub attempt :
      component_process (
      transaction 9 expression (0 ∷ 1 ∷ []) (fork (leaf (end_t 0) (rd 1 ∷ [])) (leaf (wt_t 3 2 (retry_t 1)) []))
      )
      ≡ ongoing
      (or_else' (running end (0 ∷ 1 ∷ []) (rd 1 ∷ [])) (running (prefix (wt 2) retry) (0 ∷ 1 ∷ []) []))
      in_calculus
  -- two stations, in the order of their processes
  pub in_order_holds : Denotes (par (out 3) (inp 4 nil)) (putting ∷ waiting ∷ [])
  pub not_exchanged : Denotes (par (out 3) (inp 4 nil)) (waiting ∷ putting ∷ []) → ⊥
  pub other_way_round : Denotes (par (inp 4 nil) (out 3)) (waiting ∷ putting ∷ [])
  -- grouping and nil make no difference
  pub nil_within : Denotes (par (par (out 3) nil) (inp 4 nil)) (putting ∷ waiting ∷ [])
  pub nil_behind : Denotes (par (out 3) (par (inp 4 nil) nil)) (putting ∷ waiting ∷ [])
  pub to_the_left : Denotes (par (par (out 3) (inp 4 nil)) (out 3)) (putting ∷ waiting ∷ putting ∷ [])
  pub to_the_right : Denotes (par (out 3) (par (inp 4 nil) (out 3))) (putting ∷ waiting ∷ putting ∷ [])
  pub last_not_first : Denotes (par (out 3) (par (inp 4 nil) (out 3))) (putting ∷ putting ∷ waiting ∷ []) → ⊥
  -- each as often as it stands there, and nil for none
  pub nothing_but_nil : Denotes (par nil nil) []
  pub nil_is_no_station : Denotes nil (putting ∷ []) → ⊥
  pub not_once_for_two : Denotes (par (out 3) (out 3)) (putting ∷ []) → ⊥
  pub not_another : Denotes (inp 3 nil) (putting ∷ []) → ⊥
  -- a process has no term numbers
  pub numbered_otherwise : Denotes (inp 4 nil) (idle (taking 9 4 (nil_t 7)) ∷ [])
