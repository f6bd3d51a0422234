-- The branches of an expression, listed from left to right: how many they are, which of them are paths, the longest, and the
-- first that is readable.
-- Assumes nothing.
use Prim.Native.Nat.{ℕ, zero, suc, ◌+◌, ◌≤◌, max}
use native.Mathlib.Omega.{arith}
use native.Mathlib.Decide.{dec_le}
use mathlib.Core.Path.{◌≡◌, refl, ap, ap₂, ◌∙◌}
use mathlib.Core.Logic.{◌⊎◌, inl, inr}
use mathlib.Core.Bool.{Bool, true, false, cond}
use mathlib.Core.Option.{Option, none, some}
use mathlib.Core.List.{List, [], ◌∷◌, ◌++◌, map, append_assoc}
use lib.ListN.{length, get_elem?, length-append, length-map}
use Rattle.calculus.specs.Syntax.{Action, rd, wt, Log, State}
use Rattle.calculus.specs.State.{Included}
use Rattle.calculus.specs.Log.{RD}
use Rattle.semantics.specs.Definitions.Basics.{All, first_of}
use Rattle.semantics.specs.Definitions.Terms.{Expression, end_t, retry_t, rd_t, wt_t, or_else_t, branches, path_length}
use Rattle.semantics.specs.Definitions.Logs.{paths, readable, first_readable}
use Rattle.semantics.specs.Checks.Branches.{Finish, in_end, in_retry, Side, on_left, on_right, Branch, at_end_holds, at_retry, after_read, after_write, in_left, in_right, LeftOf, parts, parts_later, BranchesStandInOrder, Told, LeftToRight, ending, endings, BranchesAndPaths, LongestBranch, FirstReadableIsLeftmost}
use Rattle.theorems.proofs.Lists.{all_at, none_found, all_append, all_map, all_every, all_weaken, found_map, found_stays, found_right}
use Rattle.theorems.proofs.ReadableLogs.{readable_included, unreadable_not_included}

-- ---- the order

not_itself : (w : List Side) → LeftOf w w → ⊥
not_itself [] x = elim x [ ]
not_itself (on_left ∷ w) (parts_later x) = not_itself w x
not_itself (on_right ∷ w) (parts_later x) = not_itself w x

onwards : (u v w : List Side) → LeftOf u v → LeftOf v w → LeftOf u w
onwards u v w parts (parts_later y) = parts
onwards u v w (parts_later x) parts = parts
onwards u v w (parts_later {v = a} {w = b} x) (parts_later {w = c} y) = parts_later (onwards a b c x y)

-- the first of two branches stands to the left, or the second does, or they are one
Apart : {M : Expression} {v w : List Side} {δ ε : Log} {f g : Finish} → Branch M v δ f → Branch M w ε g → Type 0
Apart {v = v} {w = w} {δ = δ} {ε = ε} {f = f} {g = g} b c = LeftOf v w ⊎ (LeftOf w v ⊎ ((v ≡ w) × (δ ≡ ε) × (f ≡ g)))

apart : {M : Expression} {v w : List Side} {δ ε : Log} {f g : Finish} → (b : Branch M v δ f) (c : Branch M w ε g) → Apart b c
unfolding Apart
apart at_end_holds at_end_holds = inr (inr (refl, refl, refl))
apart at_retry at_retry = inr (inr (refl, refl, refl))
apart (after_read {a = a} b) (after_read c) =
    elim (apart b c) [ inl x ↦ inl x | inr y ↦ inr (elim y [ inl x ↦ inl x | inr e ↦ inr (e.0, ap (◌∷◌ (rd a)) e.1, e.2) ]) ]
apart (after_write {a = a} b) (after_write c) =
    elim (apart b c) [ inl x ↦ inl x | inr y ↦ inr (elim y [ inl x ↦ inl x | inr e ↦ inr (e.0, ap (◌∷◌ (wt a)) e.1, e.2) ]) ]
apart (in_left b) (in_left c) = within on_left (apart b c)
  where
    within : (s : Side) → {v w : List Side} {δ ε : Log} {f g : Finish} → LeftOf v w ⊎ (LeftOf w v ⊎ ((v ≡ w) × (δ ≡ ε) × (f ≡ g))) → LeftOf (s ∷ v) (s ∷ w) ⊎ (LeftOf (s ∷ w) (s ∷ v) ⊎ ((s ∷ v ≡ s ∷ w) × (δ ≡ ε) × (f ≡ g)))
    within s (inl x) = inl (parts_later x)
    within s (inr (inl x)) = inr (inl (parts_later x))
    within s (inr (inr e)) = inr (inr (ap (◌∷◌ s) e.0, e.1, e.2))
apart (in_left b) (in_right c) = inl parts
apart (in_right b) (in_left c) = inr (inl parts)
apart (in_right b) (in_right c) = elim (apart b c) [ inl x ↦ inl (parts_later x) | inr y ↦ inr (elim y [ inl x ↦ inl (parts_later x) | inr e ↦ inr (ap (◌∷◌ on_right) e.0, e.1, e.2) ]) ]

-- ---- the list

-- an action before every branch; a side on the way to it
abbrev before : Action → Told → Told
before α b = record { way = b.way; actions = α ∷ b.actions; finish = b.finish }

abbrev aside : Side → Told → Told
aside s b = record { way = s ∷ b.way; actions = b.actions; finish = b.finish }

listed : Expression → List Told
listed (end_t n) = record { way = []; actions = []; finish = in_end } ∷ []
listed (retry_t n) = record { way = []; actions = []; finish = in_retry } ∷ []
listed (rd_t n a M) = map (before (rd a)) (listed M)
listed (wt_t n a M) = map (before (wt a)) (listed M)
listed (or_else_t n M N) = map (aside on_left) (listed M) ++ map (aside on_right) (listed N)

listed_number : (M : Expression) → length (listed M) ≡ branches M
unfolding listed branches
listed_number (end_t n) = refl
listed_number (retry_t n) = refl
listed_number (rd_t n a M) = length-map (listed M) (before (rd a)) ∙ listed_number M
listed_number (wt_t n a M) = length-map (listed M) (before (wt a)) ∙ listed_number M
listed_number (or_else_t n M N) =
    length-append (map (aside on_left) (listed M)) _
    ∙ ap₂ ◌+◌ (length-map (listed M) (aside on_left) ∙ listed_number M) (length-map (listed N) (aside on_right) ∙ listed_number N)

-- those that finish in end are the paths
endings_append : (bs cs : List Told) → endings (bs ++ cs) ≡ endings bs ++ endings cs
unfolding endings
endings_append [] cs = refl
endings_append (b ∷ bs) cs = rw (append_assoc (ending b.finish b.actions), endings_append bs cs)

endings_before : (α : Action) (bs : List Told) → endings (map (before α) bs) ≡ map (◌∷◌ α) (endings bs)
unfolding endings
endings_before α [] = refl
endings_before α (b ∷ bs) = go b.finish b.actions (endings_before α bs)
  where
    go : (f : Finish) (δ : Log) → endings (map (before α) bs) ≡ map (◌∷◌ α) (endings bs) →
        ending f (α ∷ δ) ++ endings (map (before α) bs) ≡ map (◌∷◌ α) (ending f δ ++ endings bs)
    go in_end δ e = ap (◌∷◌ (α ∷ δ)) e
    go in_retry δ e = e

endings_aside : (s : Side) (bs : List Told) → endings (map (aside s) bs) ≡ endings bs
unfolding endings
endings_aside s [] = refl
endings_aside s (b ∷ bs) = ap (λ x. ending b.finish b.actions ++ x) (endings_aside s bs)

listed_paths : (M : Expression) → endings (listed M) ≡ paths M
unfolding listed endings paths
listed_paths (end_t n) = refl
listed_paths (retry_t n) = refl
listed_paths (rd_t n a M) = endings_before (rd a) (listed M) ∙ ap (map (◌∷◌ (rd a))) (listed_paths M)
listed_paths (wt_t n a M) = endings_before (wt a) (listed M) ∙ ap (map (◌∷◌ (wt a))) (listed_paths M)
listed_paths (or_else_t n M N) =
    endings_append (map (aside on_left) (listed M)) (map (aside on_right) (listed N))
    ∙ ap₂ ◌++◌ (endings_aside on_left (listed M) ∙ listed_paths M) (endings_aside on_right (listed N) ∙ listed_paths N)

-- each is a branch
abbrev IsBranch : Expression → Told → Type 0
IsBranch M b = Branch M b.way b.actions b.finish

listed_are : (M : Expression) → All (IsBranch M) (listed M)
unfolding listed
listed_are (end_t n) = (at_end_holds, tt)
listed_are (retry_t n) = (at_retry, tt)
listed_are (rd_t n a M) = all_map (before (rd a)) _ (listed M) (all_weaken _ _ (λ b x. after_read x) (listed M) (listed_are M))
listed_are (wt_t n a M) = all_map (before (wt a)) _ (listed M) (all_weaken _ _ (λ b x. after_write x) (listed M) (listed_are M))
listed_are (or_else_t n M N) =
    all_append _ (map (aside on_left) (listed M)) _
    (all_map (aside on_left) _ (listed M) (all_weaken _ _ (λ b x. in_left x) (listed M) (listed_are M)))
    (all_map (aside on_right) _ (listed N) (all_weaken _ _ (λ b x. in_right x) (listed N) (listed_are N)))

-- every branch is there
abbrev Listed : Expression → Told → Type 0
Listed M b = (p : ℕ) × (get_elem? (listed M) p ≡ some b)

listed_all : {M : Expression} {w : List Side} {δ : Log} {f : Finish} → Branch M w δ f → Listed M (record { way = w; actions = δ; finish = f })
unfolding listed
listed_all at_end_holds = (0, refl)
listed_all at_retry = (0, refl)
listed_all (after_read {a = a} {M = M} b) = let h = listed_all b in (h.0, found_map (before (rd a)) (listed M) h.0 _ h.1)
listed_all (after_write {a = a} {M = M} b) = let h = listed_all b in (h.0, found_map (before (wt a)) (listed M) h.0 _ h.1)
listed_all (in_left {M = M} {N = N} b) =
    let h = listed_all b in
    (h.0, found_stays (map (aside on_left) (listed M)) (map (aside on_right) (listed N)) h.0 _ (found_map (aside on_left) (listed M) h.0 _ h.1))
listed_all (in_right {M = M} {N = N} b) =
    let h = listed_all b in (
      length (map (aside on_left) (listed M)) + h.0,
      found_right (map (aside on_left) (listed M)) (map (aside on_right) (listed N)) h.0
          ∙ found_map (aside on_right) (listed N) h.0 _ h.1,
    )

-- from left to right
ordered_before : (α : Action) (bs : List Told) → LeftToRight bs → LeftToRight (map (before α) bs)
ordered_before α [] h = tt
ordered_before α (b ∷ bs) h = (all_map (before α) _ bs h.0, ordered_before α bs h.1)

ordered_aside : (s : Side) (bs : List Told) → LeftToRight bs → LeftToRight (map (aside s) bs)
ordered_aside s [] h = tt
ordered_aside s (b ∷ bs) h =
    (all_map (aside s) _ bs (all_weaken _ _ (λ c x. parts_later x) bs h.0), ordered_aside s bs h.1)

ordered_sides : (bs cs : List Told) → LeftToRight (map (aside on_left) bs) → LeftToRight (map (aside on_right) cs) →
    LeftToRight (map (aside on_left) bs ++ map (aside on_right) cs)
ordered_sides [] cs h k = k
ordered_sides (b ∷ bs) cs h k = (
  all_append _ (map (aside on_left) bs) _ h.0 (all_map (aside on_right) _ cs (all_every _ (λ c. parts) cs)),
  ordered_sides bs cs h.1 k,
)

listed_ordered : (M : Expression) → LeftToRight (listed M)
unfolding listed
listed_ordered (end_t n) = (tt, tt)
listed_ordered (retry_t n) = (tt, tt)
listed_ordered (rd_t n a M) = ordered_before (rd a) (listed M) (listed_ordered M)
listed_ordered (wt_t n a M) = ordered_before (wt a) (listed M) (listed_ordered M)
listed_ordered (or_else_t n M N) =
    ordered_sides (listed M) (listed N) (ordered_aside on_left (listed M) (listed_ordered M))
    (ordered_aside on_right (listed N) (listed_ordered N))

-- ---- the claims

pub branches_stand_in_order : BranchesStandInOrder
unfolding Apart
branches_stand_in_order = record {
  not_itself = not_itself;
  onwards = onwards;
  one_is_left = λ M v w δ ε f g b c. apart b c;
}

pub branches_and_paths : BranchesAndPaths
unfolding BranchesAndPaths
branches_and_paths M = (
  listed M,
  record { each_is_one = listed_are M; every_one = λ w δ f b. listed_all b; left_to_right = listed_ordered M },
  listed_number M,
  listed_paths M,
)

-- ---- the longest

longest : (M : Expression) → (w : List Side) × (δ : Log) × (f : Finish) × Branch M w δ f × (length δ ≡ path_length M)
unfolding path_length
longest (end_t n) = ([], [], in_end, at_end_holds, refl)
longest (retry_t n) = ([], [], in_retry, at_retry, refl)
longest (rd_t n a M) = let h = longest M in (h.0, rd a ∷ h.1, h.2, after_read h.3, let e = h.4 in omega arith)
longest (wt_t n a M) = let h = longest M in (h.0, wt a ∷ h.1, h.2, after_write h.3, let e = h.4 in omega arith)
longest (or_else_t n M N) = go (longest M) (longest N) (dec_le (path_length N) (path_length M))
  where
    go : (w : List Side) × (δ : Log) × (f : Finish) × Branch M w δ f × (length δ ≡ path_length M) →
        (w : List Side) × (δ : Log) × (f : Finish) × Branch N w δ f × (length δ ≡ path_length N) →
        Dec (path_length N ≤ path_length M) →
        (w : List Side) × (δ : Log) × (f : Finish) × Branch (or_else_t n M N) w δ f × (length δ ≡ max (path_length M) (path_length N))
    go h k (yes l) = (on_left ∷ h.0, h.1, h.2, in_left h.3, let e = h.4 in omega arith)
    go h k (no l) = (on_right ∷ k.0, k.1, k.2, in_right k.3, let e = k.4 in omega arith)

none_longer : {M : Expression} {w : List Side} {δ : Log} {f : Finish} → Branch M w δ f → length δ ≤ path_length M
unfolding path_length
none_longer at_end_holds = omega arith
none_longer at_retry = omega arith
none_longer (after_read b) = let h = none_longer b in omega arith
none_longer (after_write b) = let h = none_longer b in omega arith
none_longer (in_left b) = let h = none_longer b in omega arith
none_longer (in_right b) = let h = none_longer b in omega arith

pub longest_branch : LongestBranch
unfolding LongestBranch
longest_branch M = (longest M, λ w δ f b. none_longer b)

-- ---- the first that is readable

module _ (σ : State) where
  -- where it stands, that its reads are there, and that those of none before it are
  FirstAt : List Told → Log → Type 0
  FirstAt bs δ =
      (w : List Side) × (p : ℕ) × (get_elem? bs p ≡ some (record { way = w; actions = δ; finish = in_end })) ×
      Included (RD δ) σ ×
      ((q : ℕ) (v : List Side) (ε : Log) → get_elem? bs q ≡ some (record { way = v; actions = ε; finish = in_end }) →
      LeftOf v w → ¬ Included (RD ε) σ)

  NoneAt : List Told → Type 0
  NoneAt bs =
      (q : ℕ) (v : List Side) (ε : Log) → get_elem? bs q ≡ some (record { way = v; actions = ε; finish = in_end }) →
      ¬ Included (RD ε) σ

  FirstIs : List Told → Option Log → Type 0
  FirstIs bs none = NoneAt bs
  FirstIs bs (some δ) = FirstAt bs δ

  -- one that is no path, or is not readable, is passed over
  pass_over : (b : Told) (bs : List Told) → (b.finish ≡ in_end → ¬ Included (RD b.actions) σ) →
      (o : Option Log) → FirstIs bs o → FirstIs (b ∷ bs) o
  unfolding FirstIs FirstAt NoneAt
  pass_over b bs no_path none h = λ q v ε. go q v ε
    where
      go : (q : ℕ) (v : List Side) (ε : Log) → get_elem? (b ∷ bs) q ≡ some (record { way = v; actions = ε; finish = in_end }) →
          ¬ Included (RD ε) σ
      go zero v ε e i =
          let s : b ≡ record { way = v; actions = ε; finish = in_end } = cc in
          no_path (ap (λ x. x.finish) s) (rw (ap (λ x. x.actions) s) i)
      go (suc q) v ε e i = h q v ε e i
  pass_over b bs no_path (some δ) h = (h.0, suc h.1, h.2, h.3, λ q v ε. go q v ε)
    where
      go : (q : ℕ) (v : List Side) (ε : Log) → get_elem? (b ∷ bs) q ≡ some (record { way = v; actions = ε; finish = in_end }) →
          LeftOf v h.0 → ¬ Included (RD ε) σ
      go zero v ε e l i =
          let s : b ≡ record { way = v; actions = ε; finish = in_end } = cc in
          no_path (ap (λ x. x.finish) s) (rw (ap (λ x. x.actions) s) i)
      go (suc q) v ε e l i = h.4 q v ε e l i

  -- nothing stands to the left of the first
  none_before : (b : Told) (bs : List Told) → All (λ c. LeftOf b.way c.way) bs → (q : ℕ) (c : Told) →
      get_elem? (b ∷ bs) q ≡ some c → LeftOf c.way b.way → ⊥
  none_before b bs h zero c e l = let s : b ≡ c = cc in not_itself b.way (rw (← s) at l)
  none_before b bs h (suc q) c e l =
      not_itself b.way (onwards b.way c.way b.way (all_at _ bs q c h e) l)

  first_is : (bs : List Told) → LeftToRight bs → FirstIs bs (first_of (readable σ) (endings bs))
  unfolding FirstIs FirstAt NoneAt first_of endings
  first_is [] h = λ q v ε e. absurd (none_found q _ e)
  first_is (b ∷ bs) h = go b.finish refl h.0 (first_is bs h.1)
    where
      by_test : (c : Told) → All (λ d. LeftOf c.way d.way) bs → c.finish ≡ in_end → FirstIs bs (first_of (readable σ) (endings bs)) →
          (x : Bool) → readable σ c.actions ≡ x →
          FirstIs (c ∷ bs) (cond x (some c.actions) (first_of (readable σ) (endings bs)))
      by_test c k e i true r = (
        c.way,
        0,
        ap (λ f. some (record { way = c.way; actions = c.actions; finish = f })) e,
        readable_included σ c.actions r,
        λ q v ε g l. absurd (none_before c bs k q _ g l),
      )
      by_test c k e i false r = pass_over c bs (λ z. unreadable_not_included σ c.actions r) (first_of (readable σ) (endings bs)) i

      go : (f : Finish) → b.finish ≡ f → All (λ d. LeftOf b.way d.way) bs →
          FirstIs bs (first_of (readable σ) (endings bs)) →
          FirstIs (b ∷ bs) (first_of (readable σ) (ending f b.actions ++ endings bs))
      go in_end e k i = by_test b k e i (readable σ b.actions) refl
      go in_retry e k i =
          pass_over b bs (λ z. absurd (let y : ◌≡◌ {A = ℕ} 0 1 = cc in omega arith))
          (first_of (readable σ) (endings bs)) i

pub first_readable_is_leftmost : FirstReadableIsLeftmost
unfolding FirstReadableIsLeftmost first_readable FirstIs FirstAt NoneAt
first_readable_is_leftmost σ M =
    let first : FirstIs σ (listed M) (first_of (readable σ) (paths M)) = rw (listed_paths M) at (first_is σ (listed M) (listed_ordered M)) in (
      λ δ e.
          let h : FirstAt σ (listed M) δ = rw e at first in
          (h.0, all_at _ (listed M) h.1 _ (listed_are M) h.2, h.3, λ v ε b l. let k = listed_all b in h.4 k.0 v ε k.1 l),
      λ e w δ b. let h : NoneAt σ (listed M) = rw e at first in let k = listed_all b in h k.0 w δ k.1,
    )
