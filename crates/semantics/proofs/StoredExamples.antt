-- The rows on the stored hall: derivations, and what no derivation has for its bytes.
-- Assumes nothing.
use Prim.Native.Nat.{ℕ, zero, suc, ◌+◌, ◌≤◌, ◌<◌}
use native.Mathlib.Omega.{arith}
use mathlib.Core.Path.{◌≡◌, refl, ap, ◌∙◌}
use mathlib.Core.Logic.{◌≢◌}
use mathlib.Core.Option.{Option, none, some}
use mathlib.Core.List.{List, [], ◌∷◌, ◌++◌, append_assoc}
use lib.ListN.{length, replicate, get_elem?}
use Rattle.calculus.specs.Syntax.{Action, Log, State}
use Rattle.semantics.specs.Definitions.Basics.{All}
use Rattle.semantics.specs.Definitions.Terms.{Expression, end_t, retry_t, wt_t, nil_t, put_t, take_t, repeat_t, par_t, atom_t, Term, process, expression, branches, path_length}
use Rattle.semantics.specs.Definitions.Configuration.{Tree, Component}
use Rattle.semantics.specs.Definitions.Stored.{bytes_of, configuration_of}
use Rattle.semantics.specs.Checks.Examples.{numbers, trays, hall_of, attempt, leaf_of}
use Rattle.semantics.specs.Checks.StoredBytes.{base_form, StoredAction, reads, writes, StoredLog, empty, logged, StoredTerm, recorded, no_record_holds, StoredNodes, a_fork, a_leaf}
use Rattle.semantics.specs.Checks.StoredBytes.{StoredStation, waits_take, waits_repeat, waits_block, puts, attempts, StoredStations, no_station, station, StoredHall}
use Rattle.semantics.specs.Checks.StoredExamples.{example_terms, example_tree, example_hall, example_bytes, small_form, small_hall, NoNodes, NoStation, NoSmallHall, StoredExamples}

-- ---- what is stored

tree_told : StoredNodes base_form example_terms example_tree 3
    (22 ∷ (leaf_of 0 1 "0" ++ (22 ∷ (leaf_of 1 4 "2 19 31 0" ++ leaf_of 255 0 ""))))
unfolding example_terms example_tree leaf_of branches path_length
tree_told =
    a_fork (a_leaf {M = end_t 0} (recorded refl) (logged (reads {a = 0} (omega arith)) empty) 15 refl (omega arith))
    (a_fork
    (a_leaf {M = wt_t 1 1 (end_t 0)} (recorded refl)
    (logged (reads {a = 2} (omega arith))
    (logged (writes {a = 3} (omega arith))
    (logged (writes {a = 15} (omega arith)) (logged (reads {a = 0} (omega arith)) empty)))) 12 refl
    (omega arith))
    (a_leaf {M = retry_t 255} no_record_holds empty 16 refl (omega arith)))

stations_told : StoredStations base_form example_terms example_hall.components
    (numbers "20 5 20 6" ++ (attempt 3 "1 2 4" (22 ∷ (leaf_of 0 1 "0" ++ (22 ∷ (leaf_of 1 4 "2 19 31 0" ++ leaf_of 255 0 "")))) ++ numbers "20 3 24 15"))
unfolding example_terms example_hall numbers attempt trays
stations_told =
    station (waits_take refl)
    (station (waits_repeat refl)
    (station (attempts {snapshot = trays "1 2 4"} refl (refl, omega arith) tree_told (omega arith))
    (station (waits_block refl)
    (station (puts {a = 15} (omega arith)) no_station))))

hall_told : StoredHall base_form example_terms example_hall example_bytes
unfolding example_hall example_bytes hall_of trays
hall_told = record {
  size = refl;
  counts = (refl, omega arith);
  bytes = numbers "20 5 20 6" ++ (attempt 3 "1 2 4" (22 ∷ (leaf_of 0 1 "0" ++ (22 ∷ (leaf_of 1 4 "2 19 31 0" ++ leaf_of 255 0 "")))) ++ numbers "20 3 24 15");
  stations = stations_told;
  few = omega arith;
  zeros = 11243;
  all = refl;
}

small_told : StoredHall small_form [] small_hall (0 ∷ 3 ∷ 6 ∷ 1 ∷ 0 ∷ 0 ∷ 0 ∷ 0 ∷ [])
unfolding small_form small_hall
small_told = record {
  size = refl;
  counts = (refl, omega arith);
  bytes = 6 ∷ 1 ∷ [];
  stations = station (puts {a = 1} (omega arith)) no_station;
  few = omega arith;
  zeros = 4;
  all = refl;
}

-- ---- nodes

-- what a leaf's bytes say
record LeafParts (term size : ℕ) (rest : List ℕ) : Type 0 where
  said : Expression
  acted : Log
  log : List ℕ
  zeros : ℕ
  named : StoredTerm base_form example_terms said term
  logged_so : StoredLog base_form acted log
  as_many : length log ≡ size
  fills : log ++ replicate zeros 0 ≡ rest
  most : length log + path_length said ≤ 16

leaf_parts : {t : Tree} {k : ℕ} {bs : List ℕ} → StoredNodes base_form example_terms t k bs →
    (term size : ℕ) (rest : List ℕ) → bs ≡ 23 ∷ term ∷ size ∷ rest → LeafParts term size rest
leaf_parts (a_fork x y) n m rest e = absurd (let z : ◌≡◌ {A = ℕ} 22 23 = cc in omega arith)
leaf_parts (a_leaf {M = M} {δ = δ} {term = term} {log = log} names x zeros fill most) n m rest e =
    let same : term ≡ n = cc in
    record {
      said = M;
      acted = δ;
      log = log;
      zeros = zeros;
      named = rw same at names;
      logged_so = x;
      as_many = cc;
      fills = cc;
      most = most;
    }

-- a log of one byte, with what stands behind it
one_byte : {δ : Log} {log : List ℕ} → StoredLog base_form δ log → length log ≡ 1 →
    (zeros b : ℕ) (rest : List ℕ) → log ++ replicate zeros 0 ≡ b ∷ rest → (b ≤ 31) × (replicate zeros 0 ≡ rest)
one_byte empty e zeros b rest f = absurd (omega arith)
one_byte (logged {b = c} x empty) e zeros b rest f =
    let same : c ≡ b = cc in
    let l : c ≤ 31 = below x in (omega arith, cc)
  where
    below : {α : Action} {d : ℕ} → StoredAction base_form α d → d ≤ 31
    below (reads l) = omega arith
    below (writes l) = omega arith
one_byte (logged x (logged y z)) e zeros b rest f = absurd (omega arith)

-- zeros have no other byte in front
no_zeros : (n b : ℕ) (rest : List ℕ) → replicate n 0 ≡ suc b ∷ rest → ⊥
no_zeros zero b rest e = let z : ◌≡◌ {A = ℕ} 0 1 = cc in omega arith
no_zeros (suc n) b rest e = let z : 0 ≡ suc b = cc in omega arith

behind_the_log : NoNodes (leaf_of 0 1 "31 1")
unfolding leaf_of
behind_the_log t k x =
    let zeros : List ℕ = replicate 14 0 in
    let p = leaf_parts x 0 1 (31 ∷ 1 ∷ zeros) refl in
    no_zeros p.zeros 0 zeros (one_byte p.logged_so p.as_many p.zeros 31 (1 ∷ zeros) p.fills).1

no_action : NoNodes (leaf_of 0 1 "32")
unfolding leaf_of
no_action t k x =
    let zeros : List ℕ = replicate 15 0 in
    let p = leaf_parts x 0 1 (32 ∷ zeros) refl in
    let l = (one_byte p.logged_so p.as_many p.zeros 32 zeros p.fills).0 in omega arith

-- the expression of a leaf's term, which is none of the table's last
term_found : {M : Expression} {n : ℕ} → StoredTerm base_form example_terms M n → n ≤ 200 →
    get_elem? example_terms n ≡ some (expression M)
term_found (recorded e) l = e
term_found no_record_holds l = absurd (omega arith)

too_long : NoNodes (leaf_of 1 16 "")
unfolding leaf_of example_terms path_length
too_long t k x =
    let zeros : List ℕ = replicate 16 0 in
    let p = leaf_parts x 1 16 zeros refl in
    let found = term_found p.named (omega arith) in
    let e : expression (wt_t 1 1 (end_t 0)) ≡ expression p.said = cc in
    let m : wt_t 1 1 (end_t 0) ≡ p.said = cc in
    let n : 1 ≡ path_length p.said = ap path_length m in
    let a = p.as_many in
    let b = p.most in omega arith

process_at_leaf : NoNodes (leaf_of 3 0 "")
unfolding leaf_of example_terms
process_at_leaf t k x =
    let zeros : List ℕ = replicate 16 0 in
    let p = leaf_parts x 3 0 zeros refl in
    let found = term_found p.named (omega arith) in
    let z : ◌≡◌ {A = ℕ} 0 1 = cc in omega arith

-- ---- stations

-- a term that a station may wait on
abbrev WaitedOn : Option Term → Type 0
WaitedOn none = ⊥
WaitedOn (some (expression M)) = ⊥
WaitedOn (some (process (nil_t n))) = ⊥
WaitedOn (some (process (put_t n a))) = ⊥
WaitedOn (some (process (take_t n a P))) = Unit {0}
WaitedOn (some (process (repeat_t n a P))) = Unit {0}
WaitedOn (some (process (par_t n P Q))) = ⊥
WaitedOn (some (process (atom_t n M))) = Unit {0}

waits_on : {c : Component} {bs : List ℕ} → StoredStation base_form example_terms c bs → (n : ℕ) → bs ≡ 20 ∷ n ∷ [] →
    WaitedOn (get_elem? example_terms n)
waits_on (waits_take {n = m} e) n f = let same : m ≡ n = cc in rw (← same, e) tt
waits_on (waits_repeat {n = m} e) n f = let same : m ≡ n = cc in rw (← same, e) tt
waits_on (waits_block {n = m} e) n f = let same : m ≡ n = cc in rw (← same, e) tt
waits_on (puts l) n f = absurd (let z : ◌≡◌ {A = ℕ} 24 20 = cc in omega arith)
waits_on (attempts e counts x few) n f = absurd (let z : ◌≡◌ {A = ℕ} 21 20 = cc in omega arith)

puts_into : {c : Component} {bs : List ℕ} → StoredStation base_form example_terms c bs → (n : ℕ) → bs ≡ 24 ∷ n ∷ [] → n < 16
puts_into (waits_take e) n f = absurd (let z : ◌≡◌ {A = ℕ} 20 24 = cc in omega arith)
puts_into (waits_repeat e) n f = absurd (let z : ◌≡◌ {A = ℕ} 20 24 = cc in omega arith)
puts_into (waits_block e) n f = absurd (let z : ◌≡◌ {A = ℕ} 20 24 = cc in omega arith)
puts_into (puts {a = a} l) n f = let same : a ≡ n = cc in omega arith
puts_into (attempts e counts x few) n f = absurd (let z : ◌≡◌ {A = ℕ} 21 24 = cc in omega arith)

no_tray : NoStation (24 ∷ 16 ∷ [])
no_tray c x = let l = puts_into x 16 refl in omega arith

-- ---- halls of the small form

-- two counts stand in front
two_counts : (σ : State) → length σ ≡ 2 → All (λ c. c ≤ 3) σ →
    (a b : ℕ) (more rest : List ℕ) → a ∷ b ∷ more ≡ σ ++ rest → (b ≤ 3) × (more ≡ rest)
two_counts [] l h a b more rest e = absurd (omega arith)
two_counts (x ∷ []) l h a b more rest e = absurd (omega arith)
two_counts (x ∷ y ∷ []) l h a b more rest e = let same : b ≡ y = cc in let k = h.1.0 in (omega arith, cc)
two_counts (x ∷ y ∷ z ∷ σ) l h a b more rest e = absurd (omega arith)

-- no station begins with a zero, and what a put leaves behind it
station_front : {c : Component} {bs : List ℕ} → StoredStation small_form [] c bs →
    (b : ℕ) (more rest : List ℕ) → b ∷ more ≡ bs ++ rest → b ≢ 0
unfolding small_form
station_front (waits_take e) b more rest f = λ z. let y : b ≡ 5 = cc in omega arith
station_front (waits_repeat e) b more rest f = λ z. let y : b ≡ 5 = cc in omega arith
station_front (waits_block e) b more rest f = λ z. let y : b ≡ 5 = cc in omega arith
station_front (puts l) b more rest f = λ z. let y : b ≡ 6 = cc in omega arith
station_front (attempts e counts x few) b more rest f = λ z. let y : b ≡ 7 = cc in omega arith

zeros_behind : {cs : List Component} {bytes : List ℕ} → StoredStations small_form [] cs bytes →
    (n b : ℕ) (more : List ℕ) → 0 ∷ suc b ∷ more ≡ bytes ++ replicate n 0 → ⊥
zeros_behind no_station zero b more e = let z : ◌≡◌ {A = ℕ} 0 1 = cc in omega arith
zeros_behind no_station (suc n) b more e = no_zeros n b more cc
zeros_behind (station {bytes = bs} {rest = rest} x y) n b more e =
    station_front x 0 (suc b ∷ more) (rest ++ replicate n 0) (e ∙ append_assoc bs rest (replicate n 0)) refl

count_over : NoSmallHall (0 ∷ 4 ∷ 6 ∷ 1 ∷ 0 ∷ 0 ∷ 0 ∷ 0 ∷ [])
unfolding small_form
count_over h x =
    let l = (two_counts h.counts x.counts.0 x.counts.1 0 4 _ _ x.all).0 in omega arith

behind_a_zero : NoSmallHall (0 ∷ 3 ∷ 0 ∷ 6 ∷ 1 ∷ 0 ∷ 0 ∷ 0 ∷ [])
unfolding small_form
behind_a_zero h x =
    let f = (two_counts h.counts x.counts.0 x.counts.1 0 3 _ _ x.all).1 in
    zeros_behind x.stations x.zeros 5 (1 ∷ 0 ∷ 0 ∷ 0 ∷ []) f

short : NoSmallHall (0 ∷ 3 ∷ 6 ∷ 1 ∷ 0 ∷ 0 ∷ 0 ∷ [])
unfolding small_form
short h x = let l = x.size in omega arith

pub stored_examples : StoredExamples
unfolding example_terms example_hall example_bytes bytes_of configuration_of
stored_examples = record {
  told = hall_told;
  read = refl;
  written = refl;
  small_told = small_told;
  behind_the_log = behind_the_log;
  no_action = no_action;
  too_long = too_long;
  process_at_leaf = process_at_leaf;
  waits_on_nil = λ c x. waits_on x 4 refl;
  waits_on_end = λ c x. waits_on x 0 refl;
  no_tray = no_tray;
  count_over = count_over;
  behind_a_zero = behind_a_zero;
  short = short;
}
