-- What is claimed of a shortage (document 02, Q-3): it is exact, its tray is the lowest, and what passes names none; and
-- rules 6 and 9 tell that of their own log and counts.
-- Assumes nothing.
use Rattle.std.specs.Prelude.{ℕ, ◌+◌, ◌≤◌, ◌<◌, ◌≡◌, true, ◌⊎◌, ◌↔◌, ◌≢◌, List, [], ◌∷◌, ◌++◌, length}
use Rattle.std.proofs.Math.Option.{some}
use Rattle.std.proofs.Math.ListN.{get_elem?}
use Rattle.calculus.specs.Syntax.{Name, rd, Log, State}
use Rattle.calculus.specs.State.{count, occurrences, Included}
use Rattle.calculus.specs.Log.{RD}
use Rattle.calculus.specs.Reduction.{Rule, ARDF}
use Rattle.semantics.specs.Definitions.Layout.{hall_bytes}
use Rattle.semantics.specs.Definitions.Terms.{Expression, end_t, rd_t}
use Rattle.semantics.specs.Definitions.Table.{Table}
use Rattle.semantics.specs.Definitions.Shortage.{Shortage, enough, short}
use Rattle.semantics.specs.Definitions.Logs.{shortage, readable}
use Rattle.semantics.specs.Definitions.Configuration.{Tree, leaf, transaction, Configuration, preorder}
use Rattle.semantics.specs.Definitions.Stored.{configuration_of}
use Rattle.semantics.specs.Definitions.Moves.{Entry, act, inside, does, entry_answer, rule_number}
use Rattle.semantics.specs.Definitions.Run.{Counters}
use Rattle.semantics.specs.Definitions.Calls.{Call}
use Rattle.semantics.specs.Claims.Correspondence.{AcceptsTable, EveryHall}
use Rattle.semantics.specs.Claims.Atomicity.{final_buffers}

-- ---- of a log at given counts

-- a tray is short: the log reads more of it than is there
abbrev pub IsShort : State → Log → Name → Type 0
IsShort σ δ a = count σ a < occurrences a (RD δ)

-- the tray that is named is short, and none below it is
unfoldable pub ShortageIsLowest : Type 0
unfolding shortage
ShortageIsLowest =
    (σ : State) (δ : Log) (a k : ℕ) → shortage σ δ ≡ short a k →
    IsShort σ δ a × ((b : Name) → b < a → ¬ IsShort σ δ b)

-- at counts with so many more tokens in that tray, whatever the others have, it is short exactly where these are fewer
-- than was told
unfoldable pub ShortageIsExact : Type 0
unfolding shortage
ShortageIsExact =
    (σ : State) (δ : Log) (a k : ℕ) → shortage σ δ ≡ short a k →
    (more : ℕ) (σ' : State) → count σ' a ≡ count σ a + more → IsShort σ' δ a ↔ (more < k)

-- what passes names none: none is named, and the log is readable, exactly where the counts include what it reads
unfoldable pub EnoughIsIncluded : Type 0
unfolding shortage readable
EnoughIsIncluded =
    (σ : State) (δ : Log) → ((shortage σ δ ≡ enough) ↔ Included (RD δ) σ) × ((readable σ δ ≡ true) ↔ Included (RD δ) σ)

-- ---- of a choice, on every configuration, also one that no run reached

-- the counts and the log that it holds against one another: at a single end leaf the counts of now and the leaf's log; at
-- a read the snapshot and the log with that read added
pub data Tests (h : Configuration) : Entry → State → Log → Type 0 where
  commit_tests : {p n e : ℕ} {M : Expression} {s : State} {δ : Log} →
      get_elem? h.components p ≡ some (transaction n M s (leaf (end_t e) δ)) → Tests h (act p) h.counts δ
  read_tests : {p k n e : ℕ} {a : Name} {M N : Expression} {s : State} {t : Tree} {δ : Log} →
      get_elem? h.components p ≡ some (transaction n M s t) → get_elem? (preorder t) k ≡ some (leaf (rd_t e a N) δ) →
      Tests h (inside p k) s (δ ++ (rd a ∷ []))

-- rules 6 and 9 tell what that log is short of at those counts
unfoldable pub FailuresTellTheirTest : Type 0
unfolding entry_answer rule_number shortage
FailuresTellTheirTest =
    (h g : Configuration) (e : Entry) (r : Rule) (w : Shortage) → entry_answer h e ≡ does r w g →
    (rule_number r ≡ 6) ⊎ (rule_number r ≡ 9) → (σ : State) × (δ : Log) × Tests h e σ δ × (w ≡ shortage σ δ)

-- and a tray is named by them alone: none is, exactly where the rule is neither
unfoldable pub FailuresAloneName : Type 0
unfolding entry_answer rule_number
FailuresAloneName =
    (h g : Configuration) (e : Entry) (r : Rule) (w : Shortage) → entry_answer h e ≡ does r w g →
    (w ≡ enough) ↔ ((rule_number r ≢ 6) × (rule_number r ≢ 9))

-- on a hall that calls have led to from its opening, a read that fails lacks one of the tray that it reads
unfoldable pub ReadLacksOne : Type 0
unfolding final_buffers entry_answer
ReadLacksOne =
    (table : List ℕ) (t : Table) → AcceptsTable table t → (buffer : List ℕ) → length buffer ≡ hall_bytes →
    (first : Counters) (cs : List Call) (h g : Configuration) →
    configuration_of t.terms (final_buffers table t buffer first cs).hall ≡ some h →
    (p k : ℕ) (w : Shortage) → entry_answer h (inside p k) ≡ does ARDF w g →
    (s : State) × (δ : Log) × (a : Name) × Tests h (inside p k) s (δ ++ (rd a ∷ [])) × (w ≡ short a 1)

-- on a well-formed hall the tray is one of the 16, and it lacks between 1 and 16 tokens
unfoldable pub ShortagesAreSmall : Type 0
unfolding entry_answer
ShortagesAreSmall = EveryHall (λ t h.
    (e : Entry) (r : Rule) (a k : ℕ) (g : Configuration) → entry_answer h e ≡ does r (short a k) g →
    (a < 16) × (1 ≤ k) × (k ≤ 16))
