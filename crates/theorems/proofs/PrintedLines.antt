-- The text of a printed run is the one that its lines, as they are told, allow.
-- Assumes nothing.
use Prim.Native.Nat.{ℕ, zero, suc, ◌+◌, ◌-◌, ◌^◌, ◌≤◌, ◌<◌}
use native.Mathlib.Omega.{arith}
use mathlib.Core.Path.{◌≡◌, refl, sym, ap, ap₂, subst, ◌∙◌}
use mathlib.Core.Logic.{◌⊎◌, inl, inr, ◌≢◌}
use mathlib.Core.Bool.{Bool, true, false, cond, ◌&&◌}
use mathlib.Core.List.{List, [], ◌∷◌, ◌++◌, map, append_assoc, flatten}
use lib.ListN.{length, drop, length-take, length-drop}
use lib.Dec.{eqb, ltb}
use lib.IntN.{ℤ, pos, negsuc}
use borrow.Author.Tests.{ltb-true, ltb-false, lt-ltb, le-ltb, eqb-true, eqb-false, ne_eqb}
use Rattle.calculus.specs.Syntax.{State}
use Rattle.semantics.specs.Definitions.Basics.{All, Bytes}
use Rattle.semantics.specs.Definitions.Table.{Table}
use Rattle.semantics.specs.Definitions.Configuration.{taking, repeating, block, output, Component, idle, transaction, Configuration, opening, preorder}
use Rattle.semantics.specs.Definitions.Run.{fresh_counters, RunAnswer, net, run}
use Rattle.semantics.specs.Definitions.Report.{signed, line, run_line, counters_line, channel_line, channel_lines, component_line, lines, report}
use Rattle.semantics.specs.Claims.Correspondence.{AcceptsTable}
use Rattle.semantics.specs.Checks.Fuels.{line_numbers, PrintedNumbersFit}
use Rattle.semantics.specs.Checks.Decimals.{TwentyDigits, SignedAsStated}
use Rattle.semantics.specs.Checks.PrintedRun.{TablePart, up_to_start, all_of_it}
use Rattle.semantics.specs.Checks.PrintedLines.{Numbers, newline, space, Line, begins, NetOf, gained, lost, TrayLines, no_more, passed_over, told}
use Rattle.semantics.specs.Checks.PrintedLines.{StationLine, puts, takes, repeats, waits, attempts, StationLines, no_station, station, RunPrinted, RefusedAsStated, RunAsStated}
use Rattle.theorems.proofs.Lists.{all_weaken}
use Rattle.theorems.proofs.Fuels.{printed_numbers_fit}
use Rattle.theorems.proofs.Walk.{length_preorder}
use Rattle.theorems.proofs.PrintedRun.{split_text}
use Rattle.theorems.proofs.Decimals.{signed_as_stated}

-- ---- a line

numbers_told : (zs : List ℤ) → All TwentyDigits zs → Numbers zs (flatten (map (◌∷◌ 32) (map signed zs)) ++ (10 ∷ []))
unfolding flatten SignedAsStated
numbers_told [] h = newline
numbers_told (z ∷ zs) h = rw append_assoc (space ((signed_as_stated z (signed z) h.0).0 refl) (numbers_told zs h.1))

numbers_are : {zs : List ℤ} {bs : List ℕ} → All TwentyDigits zs → Numbers zs bs →
    flatten (map (◌∷◌ 32) (map signed zs)) ++ (10 ∷ []) ≡ bs
unfolding flatten SignedAsStated
numbers_are h newline = refl
numbers_are h (space {z = z} {word = word} x y) =
    rw append_assoc (ap₂ (λ u v. 32 ∷ (u ++ v)) ((signed_as_stated z word h.0).1 x) (numbers_are h.1 y))

line_told : (letter : ℕ) (zs : List ℤ) → All TwentyDigits zs → Line letter zs (line letter (map signed zs))
unfolding line
line_told letter zs h = begins (numbers_told zs h)

line_is : {letter : ℕ} {zs : List ℤ} {bs : List ℕ} → All TwentyDigits zs → Line letter zs bs → line letter (map signed zs) ≡ bs
unfolding line
line_is {letter} h (begins x) = ap (◌∷◌ letter) (numbers_are h x)

-- ---- a tray's net

net_is : {f l : ℕ} {z : ℤ} → NetOf f l z → net f l ≡ z
unfolding net
net_is {f} {l} x = go f x
  where
    go : (f : ℕ) {z : ℤ} → NetOf f l z → net f l ≡ z
    go zero (gained k e) = ap pos (omega arith)
    go zero (lost k e) = absurd (omega arith)
    go (suc f) (gained k e) = rw (le-ltb l (suc f) (omega arith)) (ap pos (omega arith))
    go (suc f) (lost k e) = rw (lt-ltb l (suc f) (omega arith)) (ap negsuc (omega arith))

net_told : (f l : ℕ) → NetOf f l (net f l)
net_told f l = go (ltb l f) refl
  where
    go : (b : Bool) → ltb l f ≡ b → NetOf f l (net f l)
    go true e =
        let h = ltb-true l f e in
        let x : NetOf f l (negsuc (f - suc l)) = lost (f - suc l) (omega arith) in rw (net_is x) x
    go false e =
        let h = ltb-false l f e in
        let x : NetOf f l (pos (l - f)) = gained (l - f) (omega arith) in rw (net_is x) x

net_short : {f l : ℕ} {z : ℤ} → f < 10 ^ 20 → l < 10 ^ 20 → NetOf f l z → TwentyDigits z
net_short g h (gained k e) = omega arith
net_short g h (lost k e) = omega arith

-- ---- the trays

abbrev Short : ℕ → Type 0
Short n = n < 10 ^ 20

-- a tray that is told has a count that is not 0
either_counts : (f l : ℕ) → (f ≢ 0) ⊎ (l ≢ 0) → (eqb f 0 && eqb l 0) ≡ false
either_counts f l (inl n) = rw (ne_eqb f 0 n)
either_counts f l (inr n) = rw (ne_eqb l 0 n) (never (eqb f 0))
  where
    never : (b : Bool) → (b && false) ≡ false
    never true = refl
    never false = refl

tray_told : (i f l : ℕ) (fs ls : State) (rest : List ℕ) → Short i → Short f → Short l → TrayLines (suc i) fs ls rest →
    TrayLines i (f ∷ fs) (l ∷ ls) (cond (eqb f 0 && eqb l 0) [] (channel_line i f l) ++ rest)
unfolding channel_line signed
tray_told i f l fs ls rest si sf sl x = go (eqb f 0) refl (eqb l 0) refl
  where
    here : (f ≢ 0) ⊎ (l ≢ 0) → TrayLines i (f ∷ fs) (l ∷ ls) (channel_line i f l ++ rest)
    here e =
        let n = net_told f l in
        told e n (line_told 84 (pos i ∷ pos f ∷ net f l ∷ pos l ∷ []) (si, (sf, (net_short sf sl n, (sl, tt))))) x

    go : (a : Bool) → eqb f 0 ≡ a → (b : Bool) → eqb l 0 ≡ b →
        TrayLines i (f ∷ fs) (l ∷ ls) (cond (a && b) [] (channel_line i f l) ++ rest)
    go true p true q = rw (eqb-true f 0 p, eqb-true l 0 q) (passed_over x)
    go true p false q = here (inr (eqb-false l 0 q))
    go false p b q = here (inl (eqb-false f 0 p))

trays_told : (i : ℕ) (fs ls : State) → i + length fs ≤ 16 → length fs ≡ length ls → All Short fs → All Short ls →
    TrayLines i fs ls (channel_lines i fs ls)
unfolding channel_lines
trays_told i [] [] h e sf sl = no_more
trays_told i [] (l ∷ ls) h e sf sl = absurd (omega arith)
trays_told i (f ∷ fs) [] h e sf sl = absurd (omega arith)
trays_told i (f ∷ fs) (l ∷ ls) h e sf sl =
    tray_told i f l fs ls (channel_lines (suc i) fs ls) (omega arith) sf.0 sl.0
    (trays_told (suc i) fs ls (omega arith) (omega arith) sf.1 sl.1)

trays_are : {i : ℕ} {fs ls : State} {bs : List ℕ} → i + length fs ≤ 16 → All Short fs → All Short ls → TrayLines i fs ls bs →
    channel_lines i fs ls ≡ bs
unfolding channel_lines channel_line signed
trays_are h sf sl no_more = refl
trays_are h sf sl (passed_over x) = trays_are (omega arith) sf.1 sl.1 x
trays_are {i} h sf sl (told {f = f} {l = l} {net = z} {line = bs} e n x y) =
    let same = net_is n in
    let here : channel_line i f l ≡ bs =
    rw same (line_is {zs = pos i ∷ pos f ∷ z ∷ pos l ∷ []} (omega arith, (sf.0, (net_short sf.0 sl.0 n, (sl.0, tt)))) x) in
    rw (either_counts f l e) (ap₂ ◌++◌ here (trays_are (omega arith) sf.1 sl.1 y))

-- ---- the stations

-- the numbers of a station's line
abbrev ShortStation : Component → Type 0
ShortStation (idle (taking n a P)) = Short n
ShortStation (idle (repeating n a P)) = Short n
ShortStation (idle (block n M)) = Short n
ShortStation (idle (output a)) = Short a
ShortStation (transaction n M s t) = Short n × Short (length (preorder t))

station_told : (c : Component) → ShortStation c → StationLine c (component_line c)
unfolding component_line signed
station_told (idle (taking n a P)) h = takes (line_told 87 (pos n ∷ []) (h, tt))
station_told (idle (repeating n a P)) h = repeats (line_told 87 (pos n ∷ []) (h, tt))
station_told (idle (block n M)) h = waits (line_told 87 (pos n ∷ []) (h, tt))
station_told (idle (output a)) h = puts (line_told 80 (pos a ∷ []) (h, tt))
station_told (transaction n M s t) h =
    rw (← (length_preorder t)) (attempts (line_told 65 (pos n ∷ pos (length (preorder t)) ∷ []) (h.0, (h.1, tt))))

station_is : {c : Component} {bs : List ℕ} → ShortStation c → StationLine c bs → component_line c ≡ bs
unfolding component_line signed
station_is h (puts x) = line_is (h, tt) x
station_is h (takes x) = line_is (h, tt) x
station_is h (repeats x) = line_is (h, tt) x
station_is h (waits x) = line_is (h, tt) x
station_is h (attempts {t = t} x) = rw (← (length_preorder t)) (line_is (h.0, (h.1, tt)) x)

stations_told : (cs : List Component) → All ShortStation cs → StationLines cs (flatten (map component_line cs))
unfolding flatten
stations_told [] h = no_station
stations_told (c ∷ cs) h = station (station_told c h.0) (stations_told cs h.1)

stations_are : {cs : List Component} {bs : List ℕ} → All ShortStation cs → StationLines cs bs →
    flatten (map component_line cs) ≡ bs
unfolding flatten
stations_are h no_station = refl
stations_are h (station x y) = ap₂ ◌++◌ (station_is h.0 x) (stations_are h.1 y)

-- ---- the run

-- every number that is printed is below 10 ^ 20, and there are 16 counts before and behind
record ShortNumbers (first : Configuration) (a : RunAnswer) : Type 0 where
  answer : Short a.number × (Short a.place × (Short a.done × Unit {0}))
  tally : Short a.counters.commits × (Short a.counters.failed × (Short a.counters.retries × Unit {0}))
  before : (length first.counts ≡ 16) × All Short first.counts
  behind : (length a.configuration.counts ≡ 16) × All Short a.configuration.counts
  each : All ShortStation a.configuration.components

lines_told : (first : Configuration) (a : RunAnswer) → ShortNumbers first a → RunPrinted first a (lines first a)
unfolding lines run_line counters_line signed
lines_told first a s =
    let f = s.before.0 in
    let l = s.behind.0 in
    record {
      run = run_line a.number a.place a.done;
      run_line_holds = line_told 82 (pos a.number ∷ pos a.place ∷ pos a.done ∷ []) s.answer;
      tally = counters_line a.counters;
      tally_line =
          line_told 67
          (pos a.counters.commits ∷ pos a.counters.failed ∷ pos a.counters.retries ∷ []) s.tally;
      trays = channel_lines 0 first.counts a.configuration.counts;
      tray_lines =
          trays_told 0 first.counts a.configuration.counts (omega arith) (omega arith) s.before.1 s.behind.1;
      stations = flatten (map component_line a.configuration.components);
      station_lines = stations_told a.configuration.components s.each;
      all = refl;
    }

lines_are : (first : Configuration) (a : RunAnswer) (text : List ℕ) → ShortNumbers first a → RunPrinted first a text →
    lines first a ≡ text
unfolding lines run_line counters_line signed
lines_are first a text s x =
    let f = s.before.0 in
    ap₂ ◌++◌ (line_is s.answer x.run_line_holds) (ap₂ ◌++◌ (line_is s.tally x.tally_line)
    (ap₂ ◌++◌ (trays_are (omega arith) s.before.1 s.behind.1 x.tray_lines)
    (stations_are s.each x.station_lines)))
    ∙ sym x.all

-- ---- the numbers of a printed run

station_short : (c : Component) → Bytes (line_numbers c) → ShortStation c
station_short (idle (taking n a P)) h = let b = h.0 in omega arith
station_short (idle (repeating n a P)) h = let b = h.0 in omega arith
station_short (idle (block n M)) h = let b = h.0 in omega arith
station_short (idle (output a)) h = let b = h.0 in omega arith
station_short (transaction n M s t) h =
    let b = h.0 in let m = h.1.0 in let k = length_preorder t in (omega arith, omega arith)

counts_short : (σ : State) → (length σ ≡ 16) × Bytes σ → (length σ ≡ 16) × All Short σ
counts_short σ h = (h.0, all_weaken _ _ (λ c l. omega arith) σ h.1)

run_short : (table : List ℕ) (t : Table) → AcceptsTable table t → (choices : List ℕ) → length choices ≤ 16384 →
    ShortNumbers (opening t) (run (opening t) fresh_counters choices)
unfolding PrintedNumbersFit
run_short table t accepts choices h =
    let a = run (opening t) fresh_counters choices in
    let fit = printed_numbers_fit.1 table choices t accepts h in
    let number = fit.number in
    let place = fit.place in
    let done = fit.done in
    let commits = fit.counters.0 in
    let failed = fit.counters.1 in
    let retries = fit.counters.2 in
    record {
      answer = (omega arith, (omega arith, (omega arith, tt)));
      tally = (omega arith, (omega arith, (omega arith, tt)));
      before = counts_short (opening t).counts fit.first_counts;
      behind = counts_short a.configuration.counts fit.last_counts;
      each = all_weaken _ _ station_short a.configuration.components fit.each;
    }

-- ---- the claims

-- the table is no longer than the input
part_within : (bs table : List ℕ) → TablePart bs table → length table ≤ length bs
part_within bs table (up_to_start n x) = let h = length-take n bs in omega arith
part_within bs table (all_of_it none_ends) = omega arith

pub refused_as_stated : RefusedAsStated
unfolding RefusedAsStated PrintedNumbersFit report run_line signed
refused_as_stated bs h table part n p e text =
    let within = part_within bs table part in
    let fit = printed_numbers_fit.0 table n p (omega arith) e in
    let number = fit.0 in
    let place = fit.1 in
    let prints = split_text bs table part h ∙ ap (report (drop (length table) bs)) e in
    let short : All TwentyDigits (pos n ∷ pos p ∷ pos 0 ∷ []) = (omega arith, (omega arith, (omega arith, tt))) in (
      λ x. subst (Line 82 (pos n ∷ pos p ∷ pos 0 ∷ [])) (sym prints ∙ x) (line_told 82 (pos n ∷ pos p ∷ pos 0 ∷ []) short),
      λ x. prints ∙ line_is short x,
    )

pub run_as_stated : RunAsStated
unfolding RunAsStated report fresh_counters
run_as_stated bs h table part t accepts text =
    let choices = drop (length table) bs in
    let few = length-drop (length table) bs in
    let prints = split_text bs table part h ∙ ap (report choices) accepts.1 in
    let a = run (opening t) fresh_counters choices in
    let short = run_short table t accepts choices (omega arith) in (
      λ x. subst (RunPrinted (opening t) a) (sym prints ∙ x) (lines_told (opening t) a short),
      λ x. prints ∙ lines_are (opening t) a text short x,
    )
