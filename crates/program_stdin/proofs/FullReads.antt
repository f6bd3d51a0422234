-- What one more read adds to what was read before it. Assumes nothing.
use borrow.Rule.Slice.PartMut.{put_mid, post_of}
use Rattle.std.proofs.Common.{◌≡◌, ◌∙◌, ℕ, ◌+◌, ◌≤◌, List, ◌++◌, length, take, ap, subst, length-take-le}
use Rattle.std.proofs.Math.Seq.{take-append-add}
use Rattle.std.proofs.lemmas.List.{take-append-le}

pub read_on : (n k some : ℕ) (buf part : List ℕ) → n ≤ length buf → some ≤ length part →
    take (n + some) (put_mid n k buf part) ≡ take n buf ++ take some part
read_on n k some buf part h j =
    subst (λ m. take (m + some) (take n buf ++ (part ++ post_of n k buf)) ≡ take n buf ++ take some part)
    (length-take-le n buf h)
    (take-append-add (take n buf) (part ++ post_of n k buf) some ∙
    ap (λ z. take n buf ++ z) (take-append-le some part (post_of n k buf) j))
