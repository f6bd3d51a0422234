-- The stored hall (document 01, "The stored hall") as a relation on bytes, station by station and node by node, apart
-- from the functions that read and write it; and the claims that both agree with it. Proved in
-- theorems/proofs/StoredBytes. Each condition of "well formed" stands at the bytes that it is about.
--
-- It is told over the numbers of a form, written out here, since document 02 brings a second form: other numbers, and
-- behind a station's term a map, which is then a further part of its stations.
-- Assumes nothing.
use Rattle.std.specs.Prelude.{ℕ, ◌+◌, ◌≤◌, ◌<◌, ◌≡◌, ◌↔◌, List, [], ◌∷◌, ◌++◌, length, replicate}
use Rattle.std.proofs.Math.Option.{some}
use Rattle.std.proofs.Math.ListN.{get_elem?}
use Rattle.calculus.specs.Syntax.{Name, Action, rd, wt, Log, State}
use Rattle.semantics.specs.Definitions.Basics.{All, Bytes}
use Rattle.semantics.specs.Definitions.Terms.{Expression, retry_t, Program, take_t, repeat_t, atom_t, Term, process, expression, branches, path_length}
use Rattle.semantics.specs.Definitions.Table.{Table, accepted, read_table}
use Rattle.semantics.specs.Definitions.Configuration.{taking, repeating, block, output, Tree, leaf, fork, Component, idle, transaction, Configuration}
use Rattle.semantics.specs.Definitions.Stored.{WellFormed, bytes_of, configuration_of}
use Rattle.semantics.specs.Definitions.Calls.{admitted, not_admitted, admission}
use Rattle.semantics.specs.Checks.AcceptedTables.{GoodTable}

-- ---- the numbers of a form

pub record Form : Type 0 where
  -- the bytes of a hall
  pub size : ℕ
  -- the trays that a hall counts, and a snapshot too; a count's largest value
  pub trays : ℕ
  pub top : ℕ
  -- the kinds of stations, none of them 0, which stands behind the last one
  pub waiting : ℕ
  pub putting : ℕ
  pub attempt : ℕ
  -- the kinds of an attempt's nodes
  pub forked : ℕ
  pub ending : ℕ
  -- what stands at a leaf for a retry that needs no record
  pub unrecorded : ℕ
  -- the bytes of a log, and what a write adds to its tray
  pub log : ℕ
  pub writes : ℕ
  -- the stations of a hall, and the branches of an attempt's remaining terms, at most
  pub stations : ℕ
  pub branches : ℕ

-- document 01's
abbrev pub base_form : Form
base_form = record {
  size = 11344;
  trays = 16;
  top = 255;
  waiting = 20;
  putting = 24;
  attempt = 21;
  forked = 22;
  ending = 23;
  unrecorded = 255;
  log = 16;
  writes = 16;
  stations = 64;
  branches = 8;
}

-- ---- counts

-- one for each tray, tray 0 first, each a byte
abbrev pub StoredCounts : Form → State → Type 0
StoredCounts F σ = (length σ ≡ F.trays) × All (λ c. c ≤ F.top) σ

-- ---- the nodes of an attempt

-- a log byte: the tray for a read, so much more for a write
pub data StoredAction (F : Form) : Action → ℕ → Type 0 where
  reads : {a : Name} → a < F.trays → StoredAction F (rd a) a
  writes : {a : Name} → a < F.trays → StoredAction F (wt a) (F.writes + a)

-- the bytes of a log, one an action, in order
pub data StoredLog (F : Form) : Log → List ℕ → Type 0 where
  empty : StoredLog F [] []
  logged : {α : Action} {δ : Log} {b : ℕ} {bs : List ℕ} → StoredAction F α b → StoredLog F δ bs →
      StoredLog F (α ∷ δ) (b ∷ bs)

-- a leaf's term: the number of an expression of the table, or the byte for a retry that needs no record
pub data StoredTerm (F : Form) (ts : List Term) : Expression → ℕ → Type 0 where
  recorded : {n : ℕ} {M : Expression} → get_elem? ts n ≡ some (expression M) → StoredTerm F ts M n
  no_record_holds : StoredTerm F ts (retry_t F.unrecorded) F.unrecorded

-- the bytes of a tree, with how many branches the terms of its leaves have in all
pub data StoredNodes (F : Form) (ts : List Term) : Tree → ℕ → List ℕ → Type 0 where
  -- a fork: its kind, then all of its left side, then all of its right side
  a_fork : {l r : Tree} {m n : ℕ} {left right : List ℕ} → StoredNodes F ts l m left → StoredNodes F ts r n right →
      StoredNodes F ts (fork l r) (m + n) (F.forked ∷ (left ++ right))
  -- a leaf: its kind, a term, how many actions its log has, their bytes, and zeros up to the bytes of a log; with the
  -- longest way through the term it has at most so many actions
  a_leaf : {M : Expression} {δ : Log} {term : ℕ} {log : List ℕ} → StoredTerm F ts M term → StoredLog F δ log →
      (zeros : ℕ) → length log + zeros ≡ F.log → length log + path_length M ≤ F.log →
      StoredNodes F ts (leaf M δ) (branches M) (F.ending ∷ term ∷ length log ∷ (log ++ replicate zeros 0))

-- ---- the stations

pub data StoredStation (F : Form) (ts : List Term) : Component → List ℕ → Type 0 where
  -- waiting: a term of kind 3, 4 or 6
  waits_take : {n : ℕ} {a : Name} {P : Program} → get_elem? ts n ≡ some (process (take_t n a P)) →
      StoredStation F ts (idle (taking n a P)) (F.waiting ∷ n ∷ [])
  waits_repeat : {n : ℕ} {a : Name} {P : Program} → get_elem? ts n ≡ some (process (repeat_t n a P)) →
      StoredStation F ts (idle (repeating n a P)) (F.waiting ∷ n ∷ [])
  waits_block : {n : ℕ} {M : Expression} → get_elem? ts n ≡ some (process (atom_t n M)) →
      StoredStation F ts (idle (block n M)) (F.waiting ∷ n ∷ [])
  -- putting: a tray
  puts : {a : Name} → a < F.trays → StoredStation F ts (idle (output a)) (F.putting ∷ a ∷ [])
  -- attempt: a term of kind 6, the counts of its snapshot, and its nodes, which are one tree
  attempts : {n b : ℕ} {M : Expression} {snapshot nodes : List ℕ} {t : Tree} →
      get_elem? ts n ≡ some (process (atom_t n M)) → StoredCounts F snapshot → StoredNodes F ts t b nodes →
      b ≤ F.branches →
      StoredStation F ts (transaction n M snapshot t) (F.attempt ∷ n ∷ (snapshot ++ nodes))

-- one after another
pub data StoredStations (F : Form) (ts : List Term) : List Component → List ℕ → Type 0 where
  no_station : StoredStations F ts [] []
  station : {c : Component} {cs : List Component} {bytes rest : List ℕ} → StoredStation F ts c bytes →
      StoredStations F ts cs rest → StoredStations F ts (c ∷ cs) (bytes ++ rest)

-- ---- the hall

-- the counts, then the stations in order, then zeros to the end
pub record StoredHall (F : Form) (ts : List Term) (h : Configuration) (bs : List ℕ) : Type 0 where
  pub size : length bs ≡ F.size
  pub counts : StoredCounts F h.counts
  pub bytes : List ℕ
  pub stations : StoredStations F ts h.components bytes
  pub few : length h.components ≤ F.stations
  pub zeros : ℕ
  pub all : bs ≡ h.counts ++ (bytes ++ replicate zeros 0)

-- ---- the claims

-- 11,344 bytes are read as a configuration exactly where they are stored so
unfoldable pub ReadAsStored : Type 0
unfolding configuration_of
ReadAsStored =
    (ts : List Term) (bs : List ℕ) (h : Configuration) → GoodTable ts → Bytes bs → length bs ≡ 11344 →
    (configuration_of ts bs ≡ some h) ↔ StoredHall base_form ts h bs

-- a configuration is stored exactly where it is well formed, and then as the bytes that are written of it and no others
unfoldable pub WrittenAsStored : Type 0
WrittenAsStored =
    (ts : List Term) (h : Configuration) (bs : List ℕ) → GoodTable ts →
    StoredHall base_form ts h bs ↔ (WellFormed ts h × (bytes_of h ≡ bs))

-- behind an accepted table a call is let on to 11,344 bytes with the configuration that they store, and turned down
-- with 11 exactly where they store none
unfoldable pub AdmittedAsStored : Type 0
AdmittedAsStored =
    (table hall : List ℕ) (t : Table) → read_table table ≡ accepted t → Bytes hall → length hall ≡ 11344 →
    ((h : Configuration) → (admission table hall ≡ admitted t h) ↔ StoredHall base_form t.terms h hall) ×
    ((admission table hall ≡ not_admitted 11 0) ↔ ((h : Configuration) → StoredHall base_form t.terms h hall → ⊥))
