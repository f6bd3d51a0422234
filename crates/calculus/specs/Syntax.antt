-- The syntax of AtCCS: Table 1 of document 004, without hiding and without message values.
--
-- A name is a number. The printed table lacks four lines (retry, output, input, parallel), which its text supplies.
-- There are no limits here: a state counts as many names as its list is long, of any length, and nothing bounds a count, the
-- components or the length of an expression.
-- Assumes nothing.
use Rattle.std.specs.Prelude.{ℕ, List}

-- a channel's name
abbrev pub Name : Type 0
Name = ℕ

-- Actions: a tentative read of a name, a tentative write to it
pub data Action : Type 0 where
  rd wt : Name → Action

-- a log δ: the actions recorded so far, in order
abbrev pub Log : Type 0
Log = List Action

-- a state σ: a multiset of names, as the list of their counts; a name past the list's length is not among those counted
abbrev pub State : Type 0
State = List ℕ

-- Expressions M, N
pub data Expr : Type 0 where
  end retry : Expr
  prefix : Action → Expr → Expr
  or_else : Expr → Expr → Expr

-- Ongoing expressions A, B: each leaf carries its own state and log, as printed
pub data Ongoing : Type 0 where
  running : Expr → State → Log → Ongoing
  or_else' : Ongoing → Ongoing → Ongoing

-- Processes P, Q. `ongoing A M` is printed {A} with the subscript M, the block's own expression.
pub data Process : Type 0 where
  nil : Process
  out : Name → Process
  inp rep : Name → Process → Process
  par : Process → Process → Process
  atom : Expr → Process
  ongoing : Ongoing → Expr → Process
