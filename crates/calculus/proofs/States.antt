-- The laws of states: what counting, adding and taking away do to each name's count.
-- Assumes nothing.
use Rattle.calculus.specs.Syntax.{Name, State}
use Rattle.calculus.specs.State.{count, same, occurrences, Included, Plus, without}
use mathlib.Core.Path.{◌≡◌, refl, ap, ◌∙◌}
use mathlib.Core.Logic.{◌≢◌, ◌⊎◌, inl, inr}
use mathlib.Core.Bool.{Bool, true, false, cond}
use mathlib.Core.List.{List, [], ◌∷◌, ◌++◌}
use Prim.Native.Nat.{ℕ, suc, ◌+◌, ◌-◌, ◌≤◌, ◌<◌}
use native.Mathlib.Omega.{arith}
use native.Mathlib.Decide.{ℕ_discrete, dec_lt}
use lib.ListN.{length, set, length-set, get_or-eq_default}
use lib.Seq.{get_or-set_same, get_or-set_other, set_out, set-set, set-get_or}
use lib.Dec.{eqb, eqb_refl, eqb→eq, T}

pub same_self : (a : Name) → same a a ≡ 1
unfolding same
same_self a = go (eqb a a) (eqb_refl a)
  where
    go : (b : Bool) → T b → ◌≡◌ {A = ℕ} (cond b 1 0) 1
    go true t = refl
    go false t = absurd t

pub same_other : (a b : Name) → a ≢ b → same a b ≡ 0
unfolding same
same_other a b h = go (eqb a b) refl
  where
    go : (t : Bool) → eqb a b ≡ t → ◌≡◌ {A = ℕ} (cond t 1 0) 0
    go true e = absurd (h (eqb→eq a b (rw e tt)))
    go false e = refl

pub occurrences_append : (a : Name) (bs cs : List Name) → occurrences a (bs ++ cs) ≡ occurrences a bs + occurrences a cs
unfolding occurrences
occurrences_append a [] cs = omega arith
occurrences_append a (b ∷ bs) cs = let h = occurrences_append a bs cs in omega arith

-- two names that count as the same are the same
pub same_name : (a b : Name) → 1 ≤ same a b → a ≡ b
same_name a b h = elim (ℕ_discrete a b) [ yes e ↦ e | no e ↦ absurd (let z = same_other a b e in omega arith) ]

-- a list in which no name occurs is empty
pub none_occurs : (bs : List Name) → ((b : Name) → occurrences b bs ≡ 0) → bs ≡ []
unfolding occurrences
none_occurs [] h = refl
none_occurs (b ∷ bs) h = absurd (let z = h b in let w = same_self b in omega arith)

-- a list in which one name occurs once and no other occurs is that name alone
pub one_occurs : (a : Name) (bs : List Name) → ((b : Name) → occurrences b bs ≡ same b a) → bs ≡ a ∷ []
unfolding occurrences
one_occurs a [] h = absurd (let z = h a in let w = same_self a in omega arith)
one_occurs a (b ∷ bs) h =
    let e : b ≡ a = same_name b a (let z = h b in let w = same_self b in omega arith) in
    let rest : bs ≡ [] = none_occurs bs (λ c. let z = h c in let w : same c b ≡ same c a = rw e in omega arith) in cc

-- two names, each once, stand in one order or in the other
pub two_occur : (a c : Name) (bs : List Name) → ((b : Name) → occurrences b bs ≡ same b a + same b c) →
    (bs ≡ a ∷ c ∷ []) ⊎ (bs ≡ c ∷ a ∷ [])
unfolding occurrences
two_occur a c [] h = absurd (let z = h a in let w = same_self a in omega arith)
two_occur a c (b ∷ bs) h = elim (ℕ_discrete b a) [ yes e ↦ inl (first e) | no e ↦ inr (second e) ]
  where
    first : b ≡ a → b ∷ bs ≡ a ∷ c ∷ []
    first e =
        let rest : bs ≡ c ∷ [] = one_occurs c bs (λ d. let z = h d in let w : same d b ≡ same d a = rw e in omega arith) in cc

    second : b ≢ a → b ∷ bs ≡ c ∷ a ∷ []
    second n =
        let e : b ≡ c = same_name b c (let z = h b in let w = same_self b in let v = same_other b a n in omega arith) in
        let rest : bs ≡ a ∷ [] = one_occurs a bs (λ d. let z = h d in let w : same d b ≡ same d c = rw e in omega arith) in cc

-- a count after a count was set
pub count_set : (σ : State) (b : Name) (n : ℕ) (a : Name) → b < length σ → a ≡ b → count (set σ b n) a ≡ n
count_set σ b n a h e = rw e (get_or-set_same σ b n 0 h)

pub length_without : (bs : List Name) (σ : State) → length (without σ bs) ≡ length σ
unfolding without
length_without [] σ = refl
length_without (b ∷ bs) σ = length_without bs (set σ b (count σ b - 1)) ∙ length-set σ b (count σ b - 1)

-- taking one name away lowers its count by one and no other
pub count_minus : (σ : State) (b a : Name) → count (set σ b (count σ b - 1)) a ≡ count σ a - same a b
count_minus σ b a = elim (ℕ_discrete a b) [ yes e ↦ equal e | no e ↦ other e ]
  where
    inside : b < length σ → a ≡ b → count (set σ b (count σ b - 1)) a ≡ count σ a - same a b
    inside h e = rw e (rw same_self (get_or-set_same σ b (count σ b - 1) 0 h))

    outside : length σ ≤ b → a ≡ b → count (set σ b (count σ b - 1)) a ≡ count σ a - same a b
    outside h e = rw e (rw (set_out σ b (count σ b - 1) h) (let z = get_or-eq_default σ 0 h in omega arith))

    equal : a ≡ b → count (set σ b (count σ b - 1)) a ≡ count σ a - same a b
    equal e = elim (dec_lt b (length σ)) [ yes h ↦ inside h e | no h ↦ outside (omega arith) e ]

    other : a ≢ b → count (set σ b (count σ b - 1)) a ≡ count σ a - same a b
    other e = let z = same_other a b e in let g = get_or-set_other σ b a (count σ b - 1) 0 e in omega arith

pub count_without : (bs : List Name) (σ : State) (a : Name) → count (without σ bs) a ≡ count σ a - occurrences a bs
unfolding without occurrences
count_without [] σ a = omega arith
count_without (b ∷ bs) σ a = let h = count_without bs (set σ b (count σ b - 1)) a in let g = count_minus σ b a in omega arith

-- adding one name raises its count by one and no other
pub count_plus : (σ : State) (b a : Name) (σ' : State) → Plus σ b σ' → count σ' a ≡ count σ a + same a b
count_plus σ b a σ' p = rw p.added (elim (ℕ_discrete a b) [ yes e ↦ equal e | no e ↦ other e ])
  where
    equal : a ≡ b → count (set σ b (suc (count σ b))) a ≡ count σ a + same a b
    equal e = rw e (rw same_self (let g = get_or-set_same σ b (suc (count σ b)) 0 p.counted in omega arith))

    other : a ≢ b → count (set σ b (suc (count σ b))) a ≡ count σ a + same a b
    other e = let z = same_other a b e in let g = get_or-set_other σ b a (suc (count σ b)) 0 e in omega arith

-- one more of a name raises its count by one
pub grown : (σ : State) (a : Name) (σ' : State) → Plus σ a σ' → count σ' a ≡ suc (count σ a)
grown σ a σ' p = let z = count_plus σ a a σ' p in let w = same_self a in omega arith

-- so no state is itself with one name more
pub not_itself : (σ : State) (a : Name) → Plus σ a σ → ⊥
not_itself σ a p = let z = grown σ a σ p in omega arith

-- without the one name more, a state is what it was
pub without_added : (σ : State) (a : Name) (σ' : State) → Plus σ' a σ → set σ a (count σ a - 1) ≡ σ'
without_added σ a σ' p =
    let g : count σ a - 1 ≡ count σ' a = let z = grown σ' a σ p in omega arith in
    rw g (rw p.added (set-set σ' a (suc (count σ' a)) (count σ' a) ∙ set-get_or σ' a 0))

-- no names are in every state
pub included_nil : (σ : State) → Included [] σ
unfolding Included occurrences
included_nil σ a = omega arith

-- a name that is there, and names that are there beside it, are there together
pub included_cons : (b : Name) (bs : List Name) (σ : State) → 1 ≤ count σ b → Included bs (set σ b (count σ b - 1)) →
    Included (b ∷ bs) σ
unfolding Included occurrences
included_cons b bs σ h i a =
    let g = count_minus σ b a in
    let k = i a in
    elim (ℕ_discrete a b) [
      | yes e ↦ let w : same a b ≡ 1 = rw e (same_self b) in let v : count σ a ≡ count σ b = ap (count σ) e in omega arith
      | no e ↦ let w = same_other a b e in omega arith
    ]
