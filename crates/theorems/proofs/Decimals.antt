-- The decimal digits of a number: which bytes they are and how many, that they are told from what follows them, and that
-- they are the number's decimal as stated.
-- Assumes nothing.
use Prim.Native.Nat.{ℕ, zero, suc, ◌+◌, ◌-◌, ◌*◌, ◌/◌, ◌%◌, ◌^◌, ◌≤◌, ◌<◌}
use native.Mathlib.Nat.{mul_assoc, mul_comm, mul-pos, pow-suc, one-le-pow}
use native.Mathlib.Omega.{arith}
use mathlib.Core.Path.{◌≡◌, refl, sym, ap, subst, ◌∙◌}
use mathlib.Core.Logic.{◌≢◌}
use mathlib.Core.Bool.{Bool, true, false, cond, not, ◌&&◌}
use mathlib.Core.List.{List, [], ◌∷◌, ◌++◌, append_assoc}
use lib.ListN.{length, length-append}
use lib.Dec.{T, leb, ltb}
use lib.IntN.{pos, negsuc}
use borrow.Author.Tests.{ltb-true, ltb-false, lt-ltb, le-ltb, le-leb}
use Rattle.semantics.specs.Definitions.Basics.{All}
use Rattle.semantics.specs.Definitions.Report.{digits, decimal, signed}
use Rattle.semantics.specs.Checks.Decimals.{place_value, NoZeroInFront, DecimalOf, SignedOf, not_negative, negative, DecimalAsStated, SignedAsStated}
use Rattle.theorems.proofs.Lists.{all_append, all_left, all_right}

pub tenth : (n m : ℕ) → n < 10 * m → n / 10 < m
tenth n m l = omega arith

-- ---- which bytes

-- from 0 to 9
abbrev pub Digit : ℕ → Type 0
Digit b = (48 ≤ b) × (b ≤ 57)

digits_bytes : (f n : ℕ) → All Digit (digits f n)
unfolding digits
digits_bytes zero n = tt
digits_bytes (suc f) n = go (ltb n 10) refl (digits_bytes f (n / 10))
  where
    go : (b : Bool) → ltb n 10 ≡ b → All Digit (digits f (n / 10)) →
        All Digit (cond b ((48 + n) ∷ []) (digits f (n / 10) ++ ((48 + n % 10) ∷ [])))
    go true e i = let l = ltb-true n 10 e in omega arith
    go false e i = all_append Digit (digits f (n / 10)) ((48 + n % 10) ∷ []) i (omega arith)

pub decimal_bytes : (n : ℕ) → All Digit (decimal n)
unfolding decimal
decimal_bytes n = digits_bytes 20 n

-- ---- how many

digits_short : (f k n : ℕ) → n < 10 ^ suc k → length (digits f n) ≤ suc k
unfolding digits
digits_short zero k n l = omega arith
digits_short (suc f) zero n l = rw (lt-ltb n 10 (omega arith)) (omega arith)
digits_short (suc f) (suc k) n l =
    let m : n < 10 * 10 ^ suc k = omega arith in
    go (ltb n 10) (digits_short f k (n / 10) (tenth n (10 ^ suc k) m))
  where
    go : (b : Bool) → length (digits f (n / 10)) ≤ suc k →
        length (cond b ((48 + n) ∷ []) (digits f (n / 10) ++ ((48 + n % 10) ∷ []))) ≤ suc (suc k)
    go true i = omega arith
    go false i = let a = length-append (digits f (n / 10)) ((48 + n % 10) ∷ []) in omega arith

-- a number below a power of ten has at most as many digits as the power says
pub decimal_short : (k n : ℕ) → n < 10 ^ suc k → length (decimal n) ≤ suc k
unfolding decimal
decimal_short k n l = digits_short 20 k n l

-- ---- told from what follows

abbrev is_digit : ℕ → Bool
is_digit b = leb 48 b && leb b 57

-- from the left: the number whose digits stand in front, those of m before them, and the bytes behind
read_number : ℕ → List ℕ → ℕ × List ℕ
read_number m [] = (m, [])
read_number m (b ∷ bs) = cond (is_digit b) (read_number (10 * m + (b - 48)) bs) (m, b ∷ bs)

read_digit : (m d n : ℕ) (s : List ℕ) → d ≤ 9 → 10 * m + d ≡ n → read_number m ((48 + d) ∷ s) ≡ read_number n s
unfolding read_number
read_digit m d n s l e =
    let z : 10 * m + (48 + d - 48) ≡ n = omega arith in
    rw (le-leb 48 (48 + d) (omega arith), le-leb (48 + d) 57 (omega arith), z)

read_digits : (f n : ℕ) (s : List ℕ) → n < 10 ^ f → read_number 0 (digits f n ++ s) ≡ read_number n s
unfolding digits
read_digits zero n s l = let e : n ≡ 0 = omega arith in rw e
read_digits (suc f) n s l =
    let m : n < 10 * 10 ^ f = omega arith in
    go (ltb n 10) refl (λ t. read_digits f (n / 10) t (tenth n (10 ^ f) m))
  where
    go : (b : Bool) → ltb n 10 ≡ b → ((t : List ℕ) → read_number 0 (digits f (n / 10) ++ t) ≡ read_number (n / 10) t) →
        read_number 0 (cond b ((48 + n) ∷ []) (digits f (n / 10) ++ ((48 + n % 10) ∷ [])) ++ s) ≡ read_number n s
    go true e i = let l = ltb-true n 10 e in read_digit 0 n n s (omega arith) (omega arith)
    go false e i =
        rw append_assoc (i ((48 + n % 10) ∷ s) ∙ read_digit (n / 10) (n % 10) n s (omega arith) (omega arith))

-- no digit stands in front
abbrev pub NoDigit : List ℕ → Type 0
NoDigit [] = Unit {0}
NoDigit (b ∷ bs) = T (not (is_digit b))

read_stops : (n : ℕ) (s : List ℕ) → NoDigit s → read_number n s ≡ (n, s)
unfolding read_number
read_stops n [] h = refl
read_stops n (b ∷ bs) h = go (is_digit b) h
  where
    go : (d : Bool) → T (not d) → cond d (read_number (10 * n + (b - 48)) bs) (n, b ∷ bs) ≡ (n, b ∷ bs)
    go true h = absurd h
    go false h = refl

-- two numbers, each with no digit behind it, written alike are the same, and so is what follows them
pub decimal_apart : (a b : ℕ) (s t : List ℕ) → a < 10 ^ 20 → b < 10 ^ 20 → NoDigit s → NoDigit t →
    decimal a ++ s ≡ decimal b ++ t → (a ≡ b) × (s ≡ t)
unfolding decimal
decimal_apart a b s t l m p q e =
    let read : (n : ℕ) (r : List ℕ) → n < 10 ^ 20 → NoDigit r → read_number 0 (digits 20 n ++ r) ≡ (n, r) =
    λ n r k h. read_digits 20 n r k ∙ read_stops n r h in
    let same = sym (read a s l p) ∙ ap (read_number 0) e ∙ read b t m q in
    (ap (λ x. x.0) same, ap (λ x. x.1) same)

-- ---- as stated

-- one digit more behind them
times_ten : (x k : ℕ) → x * 10 ^ suc k ≡ 10 * (x * 10 ^ k)
times_ten x k = ap (λ y. x * y) (pow-suc 10 k) ∙ sym (mul_assoc x (10 ^ k) 10) ∙ mul_comm (x * 10 ^ k) 10

value_behind : (bs : List ℕ) (b : ℕ) → place_value (bs ++ (b ∷ [])) ≡ 10 * place_value bs + (b - 48)
unfolding place_value
value_behind [] b = omega arith
value_behind (c ∷ bs) b =
    let n : length (bs ++ (b ∷ [])) ≡ suc (length bs) = rw (length-append bs (b ∷ [])) (omega arith) in
    let t = times_ten (c - 48) (length bs) in
    let i = value_behind bs b in rw n (omega arith)

digits_worth : (f n : ℕ) → n < 10 ^ f → place_value (digits f n) ≡ n
unfolding digits place_value
digits_worth zero n l = omega arith
digits_worth (suc f) n l =
    let m : n < 10 * 10 ^ f = omega arith in
    go (ltb n 10) refl (digits_worth f (n / 10) (tenth n (10 ^ f) m))
  where
    go : (b : Bool) → ltb n 10 ≡ b → place_value (digits f (n / 10)) ≡ n / 10 →
        place_value (cond b ((48 + n) ∷ []) (digits f (n / 10) ++ ((48 + n % 10) ∷ []))) ≡ n
    go true e i = omega arith
    go false e i = let v = value_behind (digits f (n / 10)) (48 + n % 10) in omega arith

-- the first byte is no zero's
abbrev NotZeroFirst : List ℕ → Type 0
NotZeroFirst [] = ⊥
NotZeroFirst (b ∷ bs) = b ≢ 48

first_stays : (xs ys : List ℕ) → NotZeroFirst xs → NotZeroFirst (xs ++ ys)
first_stays [] ys h = absurd h
first_stays (x ∷ xs) ys h = h

digits_first : (f n : ℕ) → 1 ≤ n → n < 10 ^ f → NotZeroFirst (digits f n)
unfolding digits
digits_first zero n g l = absurd (omega arith)
digits_first (suc f) n g l =
    let m : n < 10 * 10 ^ f = omega arith in
    go (ltb n 10) refl (λ p. digits_first f (n / 10) p (tenth n (10 ^ f) m))
  where
    go : (b : Bool) → ltb n 10 ≡ b → (1 ≤ n / 10 → NotZeroFirst (digits f (n / 10))) →
        NotZeroFirst (cond b ((48 + n) ∷ []) (digits f (n / 10) ++ ((48 + n % 10) ∷ [])))
    go true e i = λ z. omega arith
    go false e i =
        let t = ltb-false n 10 e in first_stays (digits f (n / 10)) ((48 + n % 10) ∷ []) (i (omega arith))

front_clear : (bs : List ℕ) → NotZeroFirst bs → NoZeroInFront bs
front_clear [] h = h
front_clear (b ∷ []) h = tt
front_clear (b ∷ c ∷ bs) h = h

decimal_front : (n : ℕ) → n < 10 ^ 20 → NoZeroInFront (decimal n)
unfolding decimal digits
decimal_front zero l = tt
decimal_front (suc n) l = front_clear (digits 20 (suc n)) (digits_first 20 (suc n) (omega arith) l)

pub decimal_is : (n : ℕ) → n < 10 ^ 20 → DecimalOf n (decimal n)
unfolding decimal
decimal_is n l = record { each = decimal_bytes n; front = decimal_front n l; worth = digits_worth 20 n l }

-- a list's last element, and what stands before it
last_behind : (b : ℕ) (bs : List ℕ) → (front : List ℕ) × (last : ℕ) × (b ∷ bs ≡ front ++ (last ∷ []))
last_behind b [] = ([], b, refl)
last_behind b (c ∷ bs) = let h = last_behind c bs in (b ∷ h.0, h.1, ap (◌∷◌ b) h.2)

last_of : (bs : List ℕ) → NoZeroInFront bs → (front : List ℕ) × (last : ℕ) × (bs ≡ front ++ (last ∷ []))
last_of [] h = absurd h
last_of (b ∷ bs) h = last_behind b bs

front_first : (c : ℕ) (cs : List ℕ) (b : ℕ) → NoZeroInFront (c ∷ (cs ++ (b ∷ []))) → c ≢ 48
front_first c [] b h = h
front_first c (d ∷ ds) b h = h

positive : (c : ℕ) (cs : List ℕ) → 48 ≤ c → c ≢ 48 → 1 ≤ place_value (c ∷ cs)
unfolding place_value
positive c cs l ne =
    let p : 1 ≤ (c - 48) * 10 ^ length cs = mul-pos (omega arith) (one-le-pow (length cs) 10 (omega arith)) in
    omega arith

digits_step : (f n : ℕ) (front : List ℕ) (b : ℕ) → n < 10 ^ suc f → All Digit (front ++ (b ∷ [])) →
    NoZeroInFront (front ++ (b ∷ [])) → place_value (front ++ (b ∷ [])) ≡ n →
    ((m : ℕ) → 1 ≤ m → m < 10 ^ f → All Digit front → NoZeroInFront front → place_value front ≡ m → digits f m ≡ front) →
    digits (suc f) n ≡ front ++ (b ∷ [])
unfolding digits place_value
digits_step f n [] b l d h v later =
    let e : 48 + n ≡ b = omega arith in rw (lt-ltb n 10 (omega arith), e)
digits_step f n (c ∷ cs) b l d h v later =
    let ne = front_first c cs b h in
    let p = positive c cs d.0.0 ne in
    let w = value_behind (c ∷ cs) b in
    let i = (all_right Digit (c ∷ cs) (b ∷ []) d).0 in
    let q : place_value (c ∷ cs) ≡ n / 10 = omega arith in
    let r : 48 + n % 10 ≡ b = omega arith in
    let m : n < 10 * 10 ^ f = omega arith in
    let k = later (n / 10) (omega arith) (tenth n (10 ^ f) m) (all_left Digit (c ∷ cs) (b ∷ []) d) (front_clear (c ∷ cs) ne) q in
    rw (le-ltb n 10 (omega arith), k, r)

-- digits with no zero in front that are worth a number are the ones printed
digits_only : (f n : ℕ) (bs : List ℕ) → n < 10 ^ suc f → All Digit bs → NoZeroInFront bs → place_value bs ≡ n →
    digits (suc f) n ≡ bs
digits_only zero n bs l d h v =
    let t = last_of bs h in
    rw t.2
    (digits_step zero n t.0 t.1 l (subst (All Digit) t.2 d) (subst NoZeroInFront t.2 h)
    (sym (ap place_value t.2) ∙ v) (λ m g k x y z. absurd (omega arith)))
digits_only (suc f) n bs l d h v =
    let t = last_of bs h in
    rw t.2
    (digits_step (suc f) n t.0 t.1 l (subst (All Digit) t.2 d) (subst NoZeroInFront t.2 h)
    (sym (ap place_value t.2) ∙ v) (λ m g k x y z. digits_only f m t.0 k x y z))

pub decimal_only : (n : ℕ) (bs : List ℕ) → n < 10 ^ 20 → DecimalOf n bs → decimal n ≡ bs
unfolding decimal
decimal_only n bs l d = digits_only 19 n bs l d.each d.front d.worth

pub decimal_as_stated : DecimalAsStated
unfolding DecimalAsStated
decimal_as_stated n bs l = (λ e. subst (DecimalOf n) e (decimal_is n l), decimal_only n bs l)

pub signed_as_stated : SignedAsStated
unfolding SignedAsStated signed
signed_as_stated (pos n) bs l =
    (λ e. subst (SignedOf (pos n)) e (not_negative (decimal_is n l)), λ x. minus_free x)
  where
    minus_free : {cs : List ℕ} → SignedOf (pos n) cs → decimal n ≡ cs
    minus_free (not_negative {bs = cs} d) = decimal_only n cs l d
signed_as_stated (negsuc n) bs l =
    (λ e. subst (SignedOf (negsuc n)) e (negative (decimal_is (suc n) l)), λ x. minus x)
  where
    minus : {cs : List ℕ} → SignedOf (negsuc n) cs → 45 ∷ decimal (suc n) ≡ cs
    minus (negative {bs = cs} d) = ap (◌∷◌ 45) (decimal_only (suc n) cs l d)
