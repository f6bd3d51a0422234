-- What a transaction's nodes come to at its snapshot: the log that a leaf would end with, and of a fork the left outcome or
-- else the right. Every move inside keeps the outcome and keeps every leaf's log readable at the snapshot.
-- Assumes nothing.
use Prim.Native.Nat.{ℕ}
use native.Mathlib.Omega.{arith}
use mathlib.Core.Path.{◌≡◌, refl, sym, ap, ap₂, ◌∙◌}
use mathlib.Core.Bool.{Bool, true, false, cond}
use mathlib.Core.Option.{Option, none, some}
use mathlib.Core.List.{List, [], ◌∷◌, ◌++◌, map, append-nil, append_assoc, map-append}
use Rattle.calculus.specs.Syntax.{Name, Action, rd, wt, Log, State}
use Rattle.calculus.specs.Reduction.{Rule}
use Rattle.calculus.proofs.Logs.{empty_included, prefix_included, write_included}
use Rattle.semantics.specs.Definitions.Basics.{first_of}
use Rattle.semantics.specs.Definitions.Terms.{Expression, end_t, retry_t, rd_t, wt_t, or_else_t}
use Rattle.semantics.specs.Definitions.Logs.{empty_log, readable, paths, first_readable}
use Rattle.semantics.specs.Definitions.Configuration.{Tree, leaf, fork}
use Rattle.semantics.specs.Definitions.Moves.{NodeAnswer, evolves, no_rule, out_of_range, move_at}
use Rattle.theorems.proofs.ReadableLogs.{readable_included, included_readable}
use Rattle.theorems.proofs.Moves.{Moving, inner_induction}

-- ---- the three facts of readable that the moves inside rest on

-- the empty log is readable
pub readable_empty : (σ : State) → readable σ [] ≡ true
readable_empty σ = included_readable σ [] (empty_included σ)

-- a readable log has readable prefixes
pub readable_prefix : (σ : State) (δ ε : Log) → readable σ (δ ++ ε) ≡ true → readable σ δ ≡ true
readable_prefix σ δ ε e = included_readable σ δ (prefix_included δ ε σ (readable_included σ (δ ++ ε) e))

-- a write costs nothing
pub readable_write : (σ : State) (δ : Log) (a : Name) → readable σ δ ≡ true → readable σ (δ ++ (wt a ∷ [])) ≡ true
readable_write σ δ a e =
    included_readable σ (δ ++ (wt a ∷ [])) (rw (write_included δ a []) (rw append-nil (readable_included σ δ e)))

-- ---- the first readable path of an expression from a log on

-- what an expression ends with from a log on: its first readable path
unfoldable pub first_from : State → Expression → Log → Option Log
unfolding first_of readable paths
first_from s M δ = first_of (readable s) (map (λ π. δ ++ π) (paths M))

-- the first of two options, or else the second
unfoldable pub or_else_of : Option Log → Option Log → Option Log
or_else_of none y = y
or_else_of (some x) y = some x

-- the first of two lists to pass a test: the first of the left one, or else of the right one
first_append : (p : Log → Bool) (xs ys : List Log) → first_of p (xs ++ ys) ≡ or_else_of (first_of p xs) (first_of p ys)
unfolding first_of or_else_of
first_append p [] ys = refl
first_append p (x ∷ xs) ys = go (p x) (first_append p xs ys)
  where
    go : (b : Bool) → first_of p (xs ++ ys) ≡ or_else_of (first_of p xs) (first_of p ys) →
        cond b (some x) (first_of p (xs ++ ys)) ≡ or_else_of (cond b (some x) (first_of p xs)) (first_of p ys)
    go true e = refl
    go false e = e

-- a log and paths that all begin with one action: the action may stand at the log's end
map_behind : (δ : Log) (α : Action) (ps : List Log) → map (λ π. δ ++ π) (map (◌∷◌ α) ps) ≡ map (λ π. (δ ++ (α ∷ [])) ++ π) ps
map_behind δ α [] = refl
map_behind δ α (π ∷ ps) = ap₂ ◌∷◌ (sym (append_assoc δ (α ∷ []) π)) (map_behind δ α ps)

-- from the empty log on it is the first readable path
pub first_from_empty : (s : State) (M : Expression) → first_from s M empty_log ≡ first_readable s M
unfolding first_from first_readable empty_log
first_from_empty s M = ap (first_of (readable s)) (go (paths M))
  where
    go : (ps : List Log) → map (λ π. [] ++ π) ps ≡ ps
    go [] = refl
    go (π ∷ ps) = ap (◌∷◌ π) (go ps)

-- an end ends with its log, where that is readable
pub first_from_end : (s : State) (n : ℕ) (δ : Log) → readable s δ ≡ true → first_from s (end_t n) δ ≡ some δ
unfolding first_from first_of paths empty_log
first_from_end s n δ e = rw append-nil (rw e)

-- a retry ends with nothing
pub first_from_retry : (s : State) (n : ℕ) (δ : Log) → first_from s (retry_t n) δ ≡ none
unfolding first_from first_of paths
first_from_retry s n δ = refl

-- a read may stand at the end of the log
pub first_from_rd : (s : State) (n : ℕ) (a : Name) (M : Expression) (δ : Log) → first_from s (rd_t n a M) δ ≡ first_from s M (δ ++ (rd a ∷ []))
unfolding first_from paths
first_from_rd s n a M δ = ap (first_of (readable s)) (map_behind δ (rd a) (paths M))

-- a write may stand at the end of the log
pub first_from_wt : (s : State) (n : ℕ) (a : Name) (M : Expression) (δ : Log) → first_from s (wt_t n a M) δ ≡ first_from s M (δ ++ (wt a ∷ []))
unfolding first_from paths
first_from_wt s n a M δ = ap (first_of (readable s)) (map_behind δ (wt a) (paths M))

-- an orElse ends as its left side, or else as its right side
pub first_from_or_else : (s : State) (n : ℕ) (M N : Expression) (δ : Log) →
    first_from s (or_else_t n M N) δ ≡ or_else_of (first_from s M δ) (first_from s N δ)
unfolding first_from paths
first_from_or_else s n M N δ =
    ap (first_of (readable s)) (map-append (λ π. δ ++ π) (paths M) (paths N)) ∙
    first_append (readable s) (map (λ π. δ ++ π) (paths M)) (map (λ π. δ ++ π) (paths N))

-- where the log itself is not readable, no path from it on is
pub first_from_unreadable : (s : State) (M : Expression) (δ : Log) → readable s δ ≡ false → first_from s M δ ≡ none
unfolding first_from first_of
first_from_unreadable s M δ e = go (paths M)
  where
    go : (ps : List Log) → first_of (readable s) (map (λ π. δ ++ π) ps) ≡ none
    go [] = refl
    go (π ∷ ps) = at (readable s (δ ++ π)) refl (go ps)
      where
        at : (b : Bool) → readable s (δ ++ π) ≡ b → first_of (readable s) (map (λ π. δ ++ π) ps) ≡ none →
            cond b (some (δ ++ π)) (first_of (readable s) (map (λ π. δ ++ π) ps)) ≡ none
        at true q h = let z = readable_prefix s δ π q in let w : ◌≡◌ {A = ℕ} 0 1 = cc in absurd (omega arith)
        at false q h = h

-- ---- the outcome of a tree

-- what a leaf ends with from its log on; of a fork the left outcome, or else the right
unfoldable pub outcome : State → Tree → Option Log
unfolding first_from or_else_of
outcome s (leaf M δ) = first_from s M δ
outcome s (fork l r) = or_else_of (outcome s l) (outcome s r)

-- every leaf's log is readable at the snapshot
unfoldable pub LogsReadable : State → Tree → Type 0
LogsReadable s (leaf M δ) = readable s δ ≡ true
LogsReadable s (fork l r) = LogsReadable s l × LogsReadable s r

-- what a move inside keeps of a tree whose logs are readable: its outcome, and that they are
abbrev pub Keeps : State → Tree → Rule → Tree → Type 0
Keeps s t r u = LogsReadable s t → (outcome s u ≡ outcome s t) × LogsReadable s u

-- every move inside keeps both
pub move_at_keeps : (s : State) (t : Tree) (k : ℕ) → Moving (Keeps s) t (move_at s t k)
unfolding outcome LogsReadable
move_at_keeps s = inner_induction (record {
  ardok = λ n a M δ e h. (sym (first_from_rd s n a M δ), e);
  ardf = λ n a M δ e h. (sym (first_from_rd s n a M δ ∙ first_from_unreadable s M (δ ++ (rd a ∷ [])) e), h);
  awr = λ n a M δ h. (sym (first_from_wt s n a M δ), readable_write s δ a h);
  aoi = λ n M N δ h. (sym (first_from_or_else s n M N δ), (h, h));
  aof = λ n δ r h. (refl, h.1);
  aoe = λ n δ r h. (rw (first_from_end s n δ h.0), h.0);
  aol = λ l r u e k h. let i = k h.0 in (ap (λ x. or_else_of x (outcome s r)) i.0, (i.1, h.1));
  aor = λ l r u e k h. let i = k h.1 in (ap (or_else_of (outcome s l)) i.0, (h.0, i.1));
})

-- at the start of an attempt
pub outcome_start : (s : State) (M : Expression) → outcome s (leaf M empty_log) ≡ first_readable s M
unfolding outcome
outcome_start s M = first_from_empty s M

-- the empty log is readable
pub readable_start : (s : State) (M : Expression) → LogsReadable s (leaf M empty_log)
unfolding LogsReadable empty_log
readable_start s M = readable_empty s

-- at a single end or retry leaf
pub outcome_end : (s : State) (n : ℕ) (δ : Log) → LogsReadable s (leaf (end_t n) δ) → outcome s (leaf (end_t n) δ) ≡ some δ
unfolding outcome LogsReadable
outcome_end s n δ h = first_from_end s n δ h

-- a retry leaf comes to nothing
pub outcome_retry : (s : State) (n : ℕ) (δ : Log) → outcome s (leaf (retry_t n) δ) ≡ none
unfolding outcome
outcome_retry s n δ = first_from_retry s n δ

-- ---- a tree that is true to its block

-- it comes to the block's first path readable at the snapshot, and its logs are readable there
pub record Faithful (s : State) (M : Expression) (t : Tree) : Type 0 where
  pub comes : outcome s t ≡ first_readable s M
  pub logs : LogsReadable s t

-- an attempt just opened is true to its block
pub faithful_start : (s : State) (M : Expression) → Faithful s M (leaf M empty_log)
faithful_start s M = record { comes = outcome_start s M; logs = readable_start s M }

-- of a move inside a tree that is true to its block M
abbrev pub StaysFaithful : State → Expression → NodeAnswer → Type 0
StaysFaithful s M (evolves r w u) = Faithful s M u
StaysFaithful s M no_rule = Unit {0}
StaysFaithful s M out_of_range = Unit {0}

-- every move inside keeps it so
pub faithful_move : (s : State) (M : Expression) (t : Tree) (k : ℕ) → Faithful s M t → StaysFaithful s M (move_at s t k)
faithful_move s M t k f = go (move_at s t k) (move_at_keeps s t k)
  where
    go : (i : NodeAnswer) → Moving (Keeps s) t i → StaysFaithful s M i
    go (evolves r w u) h = let k = h f.logs in record { comes = k.0 ∙ f.comes; logs = k.1 }
    go no_rule h = tt
    go out_of_range h = tt

-- at a single end leaf the log is the first readable path
pub faithful_end : (s : State) (M : Expression) (n : ℕ) (δ : Log) → Faithful s M (leaf (end_t n) δ) → first_readable s M ≡ some δ
faithful_end s M n δ f = sym f.comes ∙ outcome_end s n δ f.logs

-- at a single retry leaf there is none
pub faithful_retry : (s : State) (M : Expression) (n : ℕ) (δ : Log) → Faithful s M (leaf (retry_t n) δ) → first_readable s M ≡ none
faithful_retry s M n δ f = sym f.comes ∙ outcome_retry s n δ
