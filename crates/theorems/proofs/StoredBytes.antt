-- The stored hall read and written is the stored hall as it is told on bytes.
-- Assumes nothing.
use Prim.Native.Nat.{ℕ, ◌+◌, ◌-◌, ◌<◌}
use native.Mathlib.Omega.{arith}
use mathlib.Core.Path.{◌≡◌, refl, sym, ap, ap₂, subst, ◌∙◌}
use mathlib.Core.Bool.{Bool, true, false}
use mathlib.Core.Option.{Option, none, some}
use mathlib.Core.List.{List, [], ◌∷◌, ◌++◌, map, append_assoc, flatten}
use lib.ListN.{length, replicate, get_elem?, length-map}
use mathlib.Core.Logic.{◌↔◌}
use lib.Dec.{eqb}
use borrow.Author.Tests.{eqb-true, eq-eqb, ne_eqb}
use Rattle.calculus.specs.Syntax.{Log, rd, wt}
use Rattle.semantics.specs.Definitions.Basics.{padded, All}
use Rattle.semantics.specs.Definitions.Terms.{Expression, retry_t, Term, process, expression, number}
use Rattle.semantics.specs.Definitions.Configuration.{taking, repeating, block, output, Tree, leaf, fork, Component, idle, transaction, Configuration, branches_of}
use Rattle.semantics.specs.Definitions.Stored.{action_byte, tree_bytes, component_bytes, bytes_of, leaf_expression, channel_of, TreeOk, ComponentOk, WellFormed, configuration_of}
use Rattle.semantics.specs.Definitions.Calls.{admitted, not_admitted, table_tested, size_tested, form_tested, admission}
use Rattle.semantics.specs.Checks.AcceptedTables.{term_number, GoodTable}
use Rattle.semantics.specs.Checks.StoredBytes.{base_form, reads, writes, StoredLog, empty, logged, StoredTerm, recorded, no_record_holds, StoredNodes, a_fork, a_leaf}
use Rattle.semantics.specs.Checks.StoredBytes.{StoredStation, waits_take, waits_repeat, waits_block, puts, attempts, StoredStations, no_station, station, StoredHall, ReadAsStored, WrittenAsStored, AdmittedAsStored}
use Rattle.theorems.proofs.GoodTable.{accepted_is_good}
use Rattle.theorems.proofs.Trees.{padded_of}
use Rattle.theorems.proofs.RoundTrip.{stored_fits, read_back, read_is_well_formed}
use Rattle.theorems.proofs.Lists.{found_below}

-- ---- logs

log_told : (δ : Log) → All (λ α. channel_of α < 16) δ → StoredLog base_form δ (map action_byte δ)
unfolding channel_of action_byte
log_told [] h = empty
log_told (rd a ∷ δ) h = logged (reads h.0) (log_told δ h.1)
log_told (wt a ∷ δ) h = logged (writes h.0) (log_told δ h.1)

log_is : {δ : Log} {bs : List ℕ} → StoredLog base_form δ bs → (map action_byte δ ≡ bs) × All (λ α. channel_of α < 16) δ
unfolding channel_of action_byte
log_is empty = (refl, tt)
log_is (logged (reads {a = a} l) x) = let h = log_is x in (ap (◌∷◌ a) h.0, (l, h.1))
log_is (logged (writes {a = a} l) x) = let h = log_is x in (ap (◌∷◌ (16 + a)) h.0, (l, h.1))

-- ---- a leaf's term

term_told : (ts : List Term) (M : Expression) → leaf_expression ts (number M) ≡ some M → StoredTerm base_form ts M (number M)
unfolding leaf_expression
term_told ts M e = go (eqb (number M) 255) refl (get_elem? ts (number M)) refl
  where
    go : (b : Bool) → eqb (number M) 255 ≡ b → (o : Option Term) → get_elem? ts (number M) ≡ o →
        StoredTerm base_form ts M (number M)
    go true p o q =
        let h : some (retry_t 255) ≡ some M = rw p at e in
        let z : retry_t 255 ≡ M = cc in
        let l = eqb-true (number M) 255 p in rw l (rw (← z) no_record_holds)
    go false p none q = let h : none ≡ some M = rw (p, q) at e in let z : ◌≡◌ {A = ℕ} 0 1 = cc in absurd (omega arith)
    go false p (some (process P)) q = let h : none ≡ some M = rw (p, q) at e in let z : ◌≡◌ {A = ℕ} 0 1 = cc in absurd (omega arith)
    go false p (some (expression N)) q =
        let h : some N ≡ some M = rw (p, q) at e in
        let z : N ≡ M = cc in recorded (q ∙ ap (λ x. some (expression x)) z)

term_is : {ts : List Term} → GoodTable ts → {M : Expression} {n : ℕ} → StoredTerm base_form ts M n →
    (number M ≡ n) × (leaf_expression ts (number M) ≡ some M)
unfolding leaf_expression number term_number
term_is {ts} g (recorded {n = n} {M = M} e) =
    let k : number M ≡ n = g.numbered n (expression M) e in
    let l = found_below ts n (expression M) e in
    let f = g.few in
    (k, rw (k, ne_eqb n 255 (λ z. omega arith), e))
term_is g no_record_holds = (refl, refl)

-- ---- nodes

nodes_told : (ts : List Term) (t : Tree) → TreeOk ts t → StoredNodes base_form ts t (branches_of t) (tree_bytes t)
unfolding TreeOk tree_bytes branches_of padded
nodes_told ts (leaf M δ) ok =
    let n = length-map δ action_byte in
    let l = ok.1 in
    rw (← n)
    (a_leaf (term_told ts M ok.0) (log_told δ ok.2) (16 - length (map action_byte δ)) (omega arith) (omega arith))
nodes_told ts (fork l r) ok = a_fork (nodes_told ts l ok.0) (nodes_told ts r ok.1)

nodes_are : {ts : List Term} → GoodTable ts → {t : Tree} {k : ℕ} {bs : List ℕ} → StoredNodes base_form ts t k bs →
    (tree_bytes t ≡ bs) × TreeOk ts t × (branches_of t ≡ k)
unfolding TreeOk tree_bytes branches_of padded
nodes_are g (a_fork x y) =
    let h = nodes_are g x in
    let k = nodes_are g y in
    (ap (◌∷◌ 22) (ap₂ ◌++◌ h.0 k.0), (h.1, k.1), ap₂ ◌+◌ h.2 k.2)
nodes_are g (a_leaf {δ = δ} {log = log} term x zeros fill most) =
    let h = log_is x in
    let m = term_is g term in
    let n : length δ ≡ length log = sym (length-map δ action_byte) ∙ ap length h.0 in
    let z : 16 - length log ≡ zeros = omega arith in
    (rw (m.0, n, h.0, z), (m.1, rw n most, h.1), refl)

-- ---- stations

station_told : (ts : List Term) (c : Component) → ComponentOk ts c → StoredStation base_form ts c (component_bytes c)
unfolding ComponentOk component_bytes
station_told ts (idle (taking n a P)) ok = waits_take ok
station_told ts (idle (repeating n a P)) ok = waits_repeat ok
station_told ts (idle (block n M)) ok = waits_block ok
station_told ts (idle (output a)) ok = puts ok
station_told ts (transaction n M s t) ok = attempts ok.0 ok.1 (nodes_told ts t ok.2) ok.3

station_is : {ts : List Term} → GoodTable ts → {c : Component} {bs : List ℕ} → StoredStation base_form ts c bs →
    (component_bytes c ≡ bs) × ComponentOk ts c
unfolding ComponentOk component_bytes
station_is g (waits_take e) = (refl, e)
station_is g (waits_repeat e) = (refl, e)
station_is g (waits_block e) = (refl, e)
station_is g (puts l) = (refl, l)
station_is g (attempts {n = n} {snapshot = s} e counts x few) =
    let h = nodes_are g x in
    (ap (λ y. 21 ∷ n ∷ (s ++ y)) h.0, (e, counts, h.1, rw h.2 few))

stations_told : (ts : List Term) (cs : List Component) → All (ComponentOk ts) cs →
    StoredStations base_form ts cs (flatten (map component_bytes cs))
unfolding flatten
stations_told ts [] ok = no_station
stations_told ts (c ∷ cs) ok = station (station_told ts c ok.0) (stations_told ts cs ok.1)

stations_are : {ts : List Term} → GoodTable ts → {cs : List Component} {bs : List ℕ} → StoredStations base_form ts cs bs →
    (flatten (map component_bytes cs) ≡ bs) × All (ComponentOk ts) cs
unfolding flatten
stations_are g no_station = (refl, tt)
stations_are g (station x y) =
    let h = station_is g x in
    let k = stations_are g y in (ap₂ ◌++◌ h.0 k.0, (h.1, k.1))

-- ---- the hall

hall_told : (ts : List Term) (h : Configuration) → GoodTable ts → WellFormed ts h → StoredHall base_form ts h (bytes_of h)
unfolding bytes_of padded
hall_told ts h g w =
    let cs = flatten (map component_bytes h.components) in
    record {
      size = (stored_fits ts h g w).1;
      counts = w.channel_counts;
      bytes = cs;
      stations = stations_told ts h.components w.each;
      few = w.few;
      zeros = 11344 - length (h.counts ++ cs);
      all = append_assoc h.counts cs _;
    }

hall_is : (ts : List Term) (h : Configuration) (bs : List ℕ) → GoodTable ts → StoredHall base_form ts h bs →
    WellFormed ts h × (bytes_of h ≡ bs)
unfolding bytes_of
hall_is ts h bs g x =
    let s = stations_are g x.stations in
    let cs = flatten (map component_bytes h.components) in (
      record { channel_counts = x.counts; few = x.few; each = s.1 },
      padded_of 11344 (h.counts ++ cs) x.zeros bs
          (x.all ∙ ap (λ y. h.counts ++ (y ++ replicate x.zeros 0)) (sym s.0) ∙ sym (append_assoc h.counts cs _))
          x.size,
    )

pub written_as_stored : WrittenAsStored
unfolding WrittenAsStored
written_as_stored ts h bs g =
    (hall_is ts h bs g, λ x. subst (StoredHall base_form ts h) x.1 (hall_told ts h g x.0))

pub read_as_stored : ReadAsStored
unfolding ReadAsStored
read_as_stored ts bs h g b l = (
  λ e. let x = read_is_well_formed ts bs h g b l e in subst (StoredHall base_form ts h) x.1 (hall_told ts h g x.0),
  λ x. let y = hall_is ts h bs g x in ap (configuration_of ts) (sym y.1) ∙ read_back ts h g y.0,
)

pub admitted_as_stored : AdmittedAsStored
unfolding AdmittedAsStored ReadAsStored admission table_tested size_tested
admitted_as_stored table hall t accepts b l =
    let read = read_as_stored t.terms hall in
    let good = accepted_is_good table t accepts in
    let tested : admission table hall ≡ form_tested t (configuration_of t.terms hall) =
    rw (accepts, eq-eqb (length hall) 11344 l) refl in
    rw tested (by_form (configuration_of t.terms hall) refl (λ h. read h good b l))
  where
    by_form : (o : Option Configuration) → configuration_of t.terms hall ≡ o →
        ((h : Configuration) → (configuration_of t.terms hall ≡ some h) ↔ StoredHall base_form t.terms h hall) →
        ((h : Configuration) → (form_tested t o ≡ admitted t h) ↔ StoredHall base_form t.terms h hall) ×
        ((form_tested t o ≡ not_admitted 11 0) ↔ ((h : Configuration) → StoredHall base_form t.terms h hall → ⊥))
    by_form none e read = (
      λ h. (
        λ q. absurd (let z : ◌≡◌ {A = ℕ} 0 1 = cc in omega arith),
        λ x. absurd (let q = (read h).1 x in let z : ◌≡◌ {A = ℕ} 0 1 = cc in omega arith),
      ),
      (λ q h x. let y = (read h).1 x in let z : ◌≡◌ {A = ℕ} 0 1 = cc in omega arith, λ x. refl),
    )
    by_form (some g) e read = (
      λ h. (
        λ q. let same : g ≡ h = cc in (read h).0 (e ∙ ap some same),
        λ x. let q = (read h).1 x in let same : g ≡ h = cc in ap (admitted t) same,
      ),
      (
        λ q. absurd (let z : ◌≡◌ {A = ℕ} 0 1 = cc in omega arith),
        λ x. absurd (x g ((read g).0 e)),
      ),
    )
