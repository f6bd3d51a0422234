-- The claims of specs/Claims/Shortages: the shortage of a log is exact and its tray the lowest; rules 6 and 9 tell that of their own
-- test, and no other rule does; it is small, and a read of an attempt that a run opened lacks one.
-- Assumes nothing.
use Prim.Native.Nat.{ℕ, ◌+◌, ◌≤◌, ◌<◌}
use native.Mathlib.Omega.{arith}
use mathlib.Core.Path.{◌≡◌, refl, sym, ap, ◌∙◌}
use mathlib.Core.Bool.{true}
use mathlib.Core.Logic.{inl, inr, ◌↔◌, ◌≢◌}
use mathlib.Core.Option.{some}
use mathlib.Core.List.{List, [], ◌∷◌, ◌++◌}
use native.Mathlib.Decide.{ℕ_discrete}
use lib.ListN.{length, get_elem?, length-append}
use Rattle.calculus.specs.Syntax.{Name, rd, wt, Log, State}
use Rattle.calculus.specs.State.{count, same, occurrences, Included}
use Rattle.calculus.specs.Log.{RD}
use Rattle.calculus.specs.Reduction.{Rule, ARDF}
use Rattle.calculus.proofs.States.{same_self, same_other, occurrences_append}
use Rattle.calculus.proofs.Logs.{RD_append}
use Rattle.semantics.specs.Definitions.Basics.{All}
use Rattle.semantics.specs.Definitions.Shortage.{Shortage, enough, short, shortage_against}
use Rattle.semantics.specs.Definitions.Terms.{Expression, rd_t, Term}
use Rattle.semantics.specs.Definitions.Logs.{empty_log, shortage, readable}
use Rattle.semantics.specs.Definitions.Configuration.{Tree, leaf, fork, transaction, Configuration, preorder}
use Rattle.semantics.specs.Definitions.Stored.{channel_of, TreeOk, ComponentOk, WellFormed}
use Rattle.semantics.specs.Definitions.Moves.{Entry, inside, does, entry_answer, rule_number}
use Rattle.semantics.specs.Claims.Shortages.{ShortageIsLowest, ShortageIsExact, EnoughIsIncluded, Tests, commit_tests, read_tests, FailuresTellTheirTest, FailuresAloneName, ShortagesAreSmall}
use Rattle.semantics.specs.Claims.InnerMoves.{Moves}
use Rattle.semantics.specs.Checks.AcceptedTables.{GoodTable}
use Rattle.semantics.specs.Checks.StatedMoves.{NodeBecomes, at_root, at_left, at_right, LowestShort, NodeMoves, ardok8, ardf9, awr10, aoi11, aof12, aoe13, MoveAsStated, out1, in2, rep3, atst4, atre5, atfail6, atok7, inside8_13}
use Rattle.theorems.proofs.Lists.{found_below, all_at, all_append}
use Rattle.theorems.proofs.GoodTable.{accepted_is_good}
use Rattle.theorems.proofs.Shortages.{Found, shortage_found, found_is}
use Rattle.theorems.proofs.ReadableLogs.{readable_included, included_readable}
use Rattle.theorems.proofs.WellFormedKept.{leaf_parts}
use Rattle.theorems.proofs.Walk.{length_preorder, node_left, node_right}
use Rattle.theorems.proofs.StatedMoves.{way_found, chosen_printed}
use Rattle.theorems.proofs.Outcome.{LogsReadable, faithful_start}
use Rattle.theorems.proofs.InnerMoves.{moves_keep}

-- ---- of a log at given counts

-- what is told of a log is so
told_found : (σ : State) (δ : Log) (w : Shortage) → shortage σ δ ≡ w → Found (RD δ) σ w
unfolding shortage
told_found σ δ w e = rw e at (shortage_found (RD δ) σ)

pub shortage_is_lowest : ShortageIsLowest
unfolding ShortageIsLowest
shortage_is_lowest σ δ a k e =
    let f : LowestShort (RD δ) σ a k = told_found σ δ (short a k) e in
    let lacks = f.lacks in
    let exact = f.exact in
    (omega arith, λ b l x. let n = f.none_lower b l in omega arith)

pub shortage_is_exact : ShortageIsExact
unfolding ShortageIsExact
shortage_is_exact σ δ a k e more σ' there =
    let f : LowestShort (RD δ) σ a k = told_found σ δ (short a k) e in
    let exact = f.exact in
    (λ x. omega arith, λ x. omega arith)

pub enough_is_included : EnoughIsIncluded
unfolding EnoughIsIncluded shortage
enough_is_included σ δ = (
  (λ e. told_found σ δ enough e, λ i. found_is (RD δ) σ enough i),
  (readable_included σ δ, included_readable σ δ),
)

-- the reads of a log and one more
reads_snoc : (δ : Log) (a b : Name) → occurrences b (RD (δ ++ (rd a ∷ []))) ≡ occurrences b (RD δ) + occurrences b (a ∷ [])
unfolding RD
reads_snoc δ a b = ap (occurrences b) (RD_append δ (rd a ∷ [])) ∙ occurrences_append b (RD δ) (a ∷ [])

-- a name occurs once in a list of it alone, and another not at all
once : (a : Name) → occurrences a (a ∷ []) ≡ 1
unfolding occurrences
once a = let z = same_self a in omega arith

never : (a b : Name) → b ≢ a → occurrences b (a ∷ []) ≡ 0
unfolding occurrences
never a b q = let z = same_other b a q in omega arith

-- where the log was there the read lacks one
one_lacks : (s : State) (δ : Log) (a : Name) → Included (RD δ) s → ¬ Included (RD (δ ++ (rd a ∷ []))) s →
    shortage_against (RD (δ ++ (rd a ∷ []))) s ≡ short a 1
unfolding Included
one_lacks s δ a there lacks = found_is (RD (δ ++ (rd a ∷ []))) s (short a 1) (record {
  lacks = omega arith;
  exact = elim (ℕ_discrete (count s a) (occurrences a (RD δ))) [ yes q ↦ all q | no q ↦ absurd (lacks (more q)) ];
  none_lower = λ b l. let z = reads_snoc δ a b in let y = never a b (λ e. omega arith) in let x = there b in omega arith;
})
  where
    all : count s a ≡ occurrences a (RD δ) → occurrences a (RD (δ ++ (rd a ∷ []))) ≡ count s a + 1
    all q = let z = reads_snoc δ a a in let y = once a in omega arith

    more : count s a ≢ occurrences a (RD δ) → (b : Name) → occurrences b (RD (δ ++ (rd a ∷ []))) ≤ count s b
    more q b = elim (ℕ_discrete b a) [
      | yes e ↦ rw e (let z = reads_snoc δ a a in let y = once a in let x = there a in omega arith)
      | no e ↦ (let z = reads_snoc δ a b in let y = never a b e in let x = there b in omega arith)
    ]

-- ---- of a choice

-- a node that changes is the one of that number
node_found : {k : ℕ} {old new t u : Tree} → NodeBecomes k old new t u → get_elem? (preorder t) k ≡ some old
unfolding preorder
node_found {old = leaf M δ} at_root = refl
node_found {old = fork l r} at_root = refl
node_found {old = old} (at_left {k} {l = l} {r = r} b) =
    let f = node_found b in
    let below = found_below (preorder l) k old f in
    let long = length_preorder l in
    node_left l r k (omega arith) ∙ f
node_found (at_right {k} {l = l} {r = r} b) = node_right l r k ∙ node_found b

-- none is named by another rule than 6 and 9, and one is by these
silent : (n : ℕ) → n ≢ 6 → n ≢ 9 → (enough ≡ enough) ↔ ((n ≢ 6) × (n ≢ 9))
silent n six nine = (λ e. (six, nine), λ z. refl)

node_names : {s : State} {old new : Tree} {r : Rule} {n : ℕ} {w : Shortage} → NodeMoves s old r n w new → (w ≡ enough) ↔ ((n ≢ 6) × (n ≢ 9))
node_names (ardok8 i) = silent 8 (λ z. omega arith) (λ z. omega arith)
node_names (ardf9 f) = (λ e. absurd (let z : ◌≡◌ {A = ℕ} 0 1 = cc in omega arith), λ z. absurd (z.1 refl))
node_names awr10 = silent 10 (λ z. omega arith) (λ z. omega arith)
node_names aoi11 = silent 11 (λ z. omega arith) (λ z. omega arith)
node_names aof12 = silent 12 (λ z. omega arith) (λ z. omega arith)
node_names aoe13 = silent 13 (λ z. omega arith) (λ z. omega arith)

printed_names : {h g : Configuration} {e : Entry} {r : Rule} {n : ℕ} {w : Shortage} → MoveAsStated h e r n w g → (w ≡ enough) ↔ ((n ≢ 6) × (n ≢ 9))
printed_names (out1 w b) = silent 1 (λ z. omega arith) (λ z. omega arith)
printed_names (in2 w o q fits) = silent 2 (λ z. omega arith) (λ z. omega arith)
printed_names (rep3 w o q fits) = silent 3 (λ z. omega arith) (λ z. omega arith)
printed_names (atst4 w) = silent 4 (λ z. omega arith) (λ z. omega arith)
printed_names (atre5 w) = silent 5 (λ z. omega arith) (λ z. omega arith)
printed_names (atfail6 w f) = (λ e. absurd (let z : ◌≡◌ {A = ℕ} 0 1 = cc in omega arith), λ z. absurd (z.0 refl))
printed_names (atok7 w i fits) = silent 7 (λ z. omega arith) (λ z. omega arith)
printed_names (inside8_13 w b m) = node_names m

pub failures_alone_name : FailuresAloneName
unfolding FailuresAloneName
failures_alone_name h g e r w q = printed_names (chosen_printed h e r w g q)

-- where a tray is named, its test is this one
told_test : {h g : Configuration} {e : Entry} {r : Rule} {n a k : ℕ} → MoveAsStated h e r n (short a k) g →
    (σ : State) × (δ : Log) × Tests h e σ δ × LowestShort (RD δ) σ a k
told_test {h} (atfail6 {δ = δ} w f) = (h.counts, δ, commit_tests (way_found w), f)
told_test (inside8_13 w b (ardf9 {a = a} {δ = δ} f)) = (_, δ ++ (rd a ∷ []), read_tests (way_found w) (node_found b), f)

pub failures_tell_their_test : FailuresTellTheirTest
unfolding FailuresTellTheirTest FailuresAloneName shortage
failures_tell_their_test h g e r w q fails = go w (chosen_printed h e r w g q) (failures_alone_name h g e r w q).0
  where
    go : (v : Shortage) → MoveAsStated h e r (rule_number r) v g → (v ≡ enough → (rule_number r ≢ 6) × (rule_number r ≢ 9)) →
        (σ : State) × (δ : Log) × Tests h e σ δ × (v ≡ shortage σ δ)
    go enough m none = absurd (elim fails [ inl z ↦ (none refl).0 z | inr z ↦ (none refl).1 z ])
    go (short a k) m none = let (σ, δ, t, f) = told_test m in (σ, δ, t, sym (found_is (RD δ) σ (short a k) f))

-- ---- in an attempt that a run opened

-- the log of a node is readable where those of its tree are
node_readable : (s : State) {k n : ℕ} {a : Name} {N : Expression} {δ : Log} {new t u : Tree} →
    NodeBecomes k (leaf (rd_t n a N) δ) new t u → LogsReadable s t → readable s δ ≡ true
unfolding LogsReadable
node_readable s at_root logs = logs
node_readable s (at_left b) logs = node_readable s b logs.0
node_readable s (at_right b) logs = node_readable s b logs.1

-- what a failed read tells where every attempt has come from its block by moves inside it
pub opened_lacks_one : {h g : Configuration} {p k : ℕ} {w : Shortage} → MoveAsStated h (inside p k) ARDF 9 w g →
    ((n : ℕ) (M : Expression) (s : State) (u : Tree) → get_elem? h.components p ≡ some (transaction n M s u) → Moves s (leaf M empty_log) u) →
    (s : State) × (δ : Log) × (a : Name) × Tests h (inside p k) s (δ ++ (rd a ∷ [])) × (w ≡ short a 1)
unfolding Included
opened_lacks_one (inside8_13 {n = n} {M = M} {s = s} {t = t} way b (ardf9 {b = c} {k = j} {a} {δ = δ} f)) from =
    let logs = (moves_keep s M (from n M s t (way_found way)) (faithful_start s M)).logs in
    let there = readable_included s δ (node_readable s b logs) in
    let lacking : ¬ Included (RD (δ ++ (rd a ∷ []))) s = λ i. let x = f.exact in let y = f.lacks in let z = i c in omega arith in (
      s,
      δ,
      a,
      read_tests (way_found way) (node_found b),
      sym (found_is (RD (δ ++ (rd a ∷ []))) s (short c j) f) ∙ one_lacks s δ a there lacking,
    )

-- ---- how much can be short

-- a name occurs no more often than there are actions
same_few : (a b : Name) → same a b ≤ 1
same_few a b = elim (ℕ_discrete a b) [ yes q ↦ rw (← q) (let z = same_self a in omega arith) | no q ↦ (let z = same_other a b q in omega arith) ]

reads_few : (δ : Log) (a : Name) → occurrences a (RD δ) ≤ length δ
unfolding RD occurrences
reads_few [] a = omega arith
reads_few (rd b ∷ δ) a = let z = reads_few δ a in let y = same_few a b in omega arith
reads_few (wt b ∷ δ) a = let z = reads_few δ a in omega arith

-- one that occurs is a channel
reads_named : (δ : Log) (a : Name) → All (λ α. channel_of α < 16) δ → 0 < occurrences a (RD δ) → a < 16
unfolding RD occurrences channel_of
reads_named [] a h o = absurd (omega arith)
reads_named (rd b ∷ δ) a h o = elim (ℕ_discrete a b) [ yes q ↦ rw q h.0 | no q ↦ (let z = same_other a b q in reads_named δ a h.1 (omega arith)) ]
reads_named (wt b ∷ δ) a h o = reads_named δ a h.1 o

-- what the lowest of a log of channels can lack
log_small : (δ : Log) (σ : State) {a k : ℕ} → length δ ≤ 16 → All (λ α. channel_of α < 16) δ → LowestShort (RD δ) σ a k → (a < 16) × (1 ≤ k) × (k ≤ 16)
log_small δ σ {a} few named f =
    let e = f.exact in
    let l = f.lacks in
    let m = reads_few δ a in
    (reads_named δ a named (omega arith), omega arith, omega arith)

-- a node of a well-formed tree is one
node_ok : (ts : List Term) {k : ℕ} {old new t u : Tree} → NodeBecomes k old new t u → TreeOk ts t → TreeOk ts old
unfolding TreeOk
node_ok ts at_root ok = ok
node_ok ts (at_left b) ok = node_ok ts b ok.0
node_ok ts (at_right b) ok = node_ok ts b ok.1

printed_small : {ts : List Term} {h g : Configuration} {e : Entry} {r : Rule} {n a k : ℕ} → GoodTable ts → WellFormed ts h →
    MoveAsStated h e r n (short a k) g → (a < 16) × (1 ≤ k) × (k ≤ 16)
unfolding ComponentOk TreeOk channel_of
printed_small {ts} {h} good ok (atfail6 {p} {δ = δ} w f) =
    let there = all_at (ComponentOk ts) h.components p _ ok.each (way_found w) in
    let long = there.2.1 in
    log_small δ h.counts (omega arith) there.2.2 f
printed_small {ts} {h} good ok (inside8_13 {p} {s = s} w b (ardf9 {n} {a = a} {M = M} {δ = δ} f)) =
    let there = all_at (ComponentOk ts) h.components p _ ok.each (way_found w) in
    let here : TreeOk ts (leaf (rd_t n a M) δ) = node_ok ts b there.2 in
    let channel = (leaf_parts good (rd_t n a M) δ (λ q. let z : ◌≡◌ {A = ℕ} 0 1 = cc in omega arith) here).1 in
    let long = here.1 in
    let size = length-append δ (rd a ∷ []) in
    log_small (δ ++ (rd a ∷ [])) s (omega arith) (all_append (λ α. channel_of α < 16) δ (rd a ∷ []) here.2 (channel, tt)) f

pub shortage_small : {ts : List Term} (h g : Configuration) (e : Entry) (r : Rule) {a k : ℕ} → GoodTable ts → WellFormed ts h →
    entry_answer h e ≡ does r (short a k) g → (a < 16) × (1 ≤ k) × (k ≤ 16)
shortage_small h g e r {a} {k} good ok q = printed_small good ok (chosen_printed h e r (short a k) g q)

pub shortages_are_small : ShortagesAreSmall
unfolding ShortagesAreSmall
shortages_are_small bs t acc h ok e r a k g q = shortage_small h g e r (accepted_is_good bs t acc.1) ok q
