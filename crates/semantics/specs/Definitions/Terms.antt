-- The terms of a rule table and their measures (document 01, "The rule table").
--
-- A term is kept unfolded, as a tree whose every node carries the number of its term: stored halls and printed runs hold
-- numbers, the calculus and the paths want trees, and both are read off the same value.
-- Assumes nothing.
use Rattle.std.specs.Prelude.{ℕ, ◌+◌, max}
use Rattle.calculus.specs.Syntax.{Name}

-- kinds 7 to 11, its expressions; `retry_t 255` is the retry that needs no record
pub data Expression : Type 0 where
  end_t retry_t : ℕ → Expression
  rd_t wt_t : ℕ → Name → Expression → Expression
  or_else_t : ℕ → Expression → Expression → Expression

-- kinds 1 to 6, document 01's processes
pub data Program : Type 0 where
  nil_t : ℕ → Program
  put_t : ℕ → Name → Program
  take_t repeat_t : ℕ → Name → Program → Program
  par_t : ℕ → Program → Program → Program
  atom_t : ℕ → Expression → Program

-- a term of either class
pub data Term : Type 0 where
  process : Program → Term
  expression : Expression → Term

-- an expression's term number
unfoldable pub number : Expression → ℕ
number (end_t n) = n
number (retry_t n) = n
number (rd_t n a M) = n
number (wt_t n a M) = n
number (or_else_t n M N) = n

-- width: at least as many as the components that open
unfoldable pub width : Program → ℕ
width (nil_t n) = 1
width (put_t n a) = 1
width (take_t n a P) = 1
width (repeat_t n a P) = 1
width (par_t n P Q) = width P + width Q
width (atom_t n M) = 1

-- branches: the ends and retries of the unfolded expression
unfoldable pub branches : Expression → ℕ
branches (end_t n) = 1
branches (retry_t n) = 1
branches (rd_t n a M) = branches M
branches (wt_t n a M) = branches M
branches (or_else_t n M N) = branches M + branches N

-- length: the actions on its longest branch
unfoldable pub path_length : Expression → ℕ
path_length (end_t n) = 0
path_length (retry_t n) = 0
path_length (rd_t n a M) = 1 + path_length M
path_length (wt_t n a M) = 1 + path_length M
path_length (or_else_t n M N) = max (path_length M) (path_length N)
