-- A page: a lent slice, written from its front on.
-- Assumes nothing.
use Rattle.std.specs.Prelude.{ℕ, ◌+◌, ◌≡◌, ◌≤◌, List, length}
use Rattle.print_decimals.specs.declared.Page.{Page}
use Rattle.print_decimals.specs.Wrote.{Wrote}

-- nothing is written yet on the page of a slice that has the elements s
pub record Begun (name : ℕ) (s : List ℕ) (p : Page) : Type 0 where
  pub same : p.out.ghost_name ≡ name
  pub holds : p.out.now ≡ s
  pub empty : p.end ≡ 0

-- so many bytes fit behind what is written; v does
pub record HasRoom (n : ℕ) (p : Page) : Type 0 where
  pub fits : p.end + n ≤ length p.out.now

pub record Room (p : Page) (v : List ℕ) : Type 0 where
  pub fits : p.end + length v ≤ length p.out.now

-- v was written behind what stood on the page, and all else of its slice, which is the same, is as it was
pub record Appended (p : Page) (v : List ℕ) (q : Page) : Type 0 where
  pub same : q.out.ghost_name ≡ p.out.ghost_name
  pub wrote : Wrote p.out.now p.end v q.out.now q.end

-- and v is at most so long
pub record Printed (most : ℕ) (p : Page) (v : List ℕ) (q : Page) : Type 0 where
  pub wrote : Appended p v q
  pub short : length v ≤ most
