-- The definitions read each kind of record as the paper prints it: its number, its body, what it says.
-- Assumes nothing.
use Prim.Native.Nat.{ℕ, zero, suc, ◌+◌, ◌≤◌, ◌<◌}
use native.Mathlib.Omega.{arith}
use mathlib.Core.Path.{◌≡◌, refl, sym, ap, ◌∙◌}
use mathlib.Core.Logic.{◌⊎◌, inl, inr}
use mathlib.Core.Option.{Option, none, some}
use mathlib.Core.List.{List, [], ◌∷◌, map}
use lib.ListN.{length, get_or, get_elem?}
use Rattle.semantics.specs.Definitions.Terms.{Expression, rd_t, wt_t, or_else_t, Program, take_t, repeat_t, par_t, atom_t, Term, process, expression}
use Rattle.semantics.specs.Definitions.Table.{Kind, nil_k, put_k, take_k, repeat_k, par_k, atom_k, end_k, retry_k, rd_k, wt_k, or_else_k, tokens_k, start_k, kinds, kind_by_number, Field, channel_f, program_f, expression_f, amount_f, fields, adds, Content, term_record, tokens_record, start_record, nothing, of_program, of_expression, with_program, with_expression, record_content}
use Rattle.semantics.specs.Checks.AcceptedTables.{kind_byte}
use Rattle.semantics.specs.Checks.Conditions.{stated_bodies, Body, RecordAsStated, nil1, put2, take3, repeat4, par5, atom6, end7, retry8, rd9, wt10, or_else11, tokens12, start13, ReadAsStated}
use Rattle.theorems.proofs.Lists.{none_found, found_below, found_at, none_past, found_map}

-- ---- kinds and their numbers

-- these kinds are numbered in order
abbrev Numbered : ℕ → List Kind → Type 0
Numbered n [] = Unit {0}
Numbered n (K ∷ Ks) = (kind_byte K ≡ n) × Numbered (suc n) Ks

numbered_at : (n : ℕ) (Ks : List Kind) → Numbered n Ks → (j : ℕ) (K : Kind) → get_elem? Ks j ≡ some K →
    n + j ≡ kind_byte K
numbered_at n [] h j K e = absurd (none_found j K e)
numbered_at n (L ∷ Ks) h zero K e = let q : L ≡ K = cc in let z : kind_byte L ≡ n = h.0 in rw (← q) (omega arith)
numbered_at n (L ∷ Ks) h (suc j) K e = let z = numbered_at (suc n) Ks h.1 j K e in omega arith

in_order_holds : Numbered 1 kinds
unfolding kinds
in_order_holds = (refl, (refl, (refl, (refl, (refl, (refl, (refl, (refl, (refl, (refl, (refl, (refl, (refl, tt)))))))))))))

-- a byte that names a kind is that kind's number
pub kind_number : (k : ℕ) (K : Kind) → kind_by_number k ≡ some K → k ≡ kind_byte K
unfolding kind_by_number
kind_number zero K e = absurd (let z : ◌≡◌ {A = ℕ} 0 1 = cc in omega arith)
kind_number (suc j) K e = let z = numbered_at 1 kinds in_order_holds j K e in omega arith

-- a byte names a kind where it is 1 to 13
pub kind_within : (k : ℕ) (K : Kind) → kind_by_number k ≡ some K → (k ≡ 0) ⊎ (13 < k) → ⊥
unfolding kind_by_number
kind_within zero K e h = let z : ◌≡◌ {A = ℕ} 0 1 = cc in omega arith
kind_within (suc j) K e (inl h) = omega arith
kind_within (suc j) K e (inr h) = let z = found_below kinds j K e in omega arith

pub kind_positive : (k : ℕ) (K : Kind) → kind_by_number k ≡ some K → 1 ≤ k
unfolding kind_by_number
kind_positive zero K e = absurd (let z : ◌≡◌ {A = ℕ} 0 1 = cc in omega arith)
kind_positive (suc j) K e = omega arith

pub kind_without : (k : ℕ) → kind_by_number k ≡ none → (k ≡ 0) ⊎ (13 < k)
unfolding kind_by_number
kind_without zero e = inl refl
kind_without (suc j) e = inr (let z = none_past kinds j e in omega arith)

-- what a record says goes by its kind
abbrev pub ContentReason : Kind → List ℕ → Content → Type 0
ContentReason K bs (term_record t) = kind_byte K ≤ 11
ContentReason K bs (tokens_record a n) =
    (kind_byte K ≡ 12) × (length (fields K) ≡ 2) × (a ≡ get_or bs 0 0) × (n ≡ get_or bs 1 0)
ContentReason K bs (start_record P) = (kind_byte K ≡ 13) × (length (fields K) ≡ 1)
ContentReason K bs nothing = kind_byte K ≡ 12 → ⊥

-- what is said of a reference has a property that nothing and each that may be said have
any_program : (p : Content → Type 0) (o : Option Term) (says : Program → Content) → p nothing → ((P : Program) → p (says P)) →
    p (of_program o says)
unfolding of_program
any_program p none says n h = n
any_program p (some (process P)) says n h = h P
any_program p (some (expression M)) says n h = n

any_expression : (p : Content → Type 0) (o : Option Term) (says : Expression → Content) → p nothing →
    ((M : Expression) → p (says M)) → p (of_expression o says)
unfolding of_expression
any_expression p none says n h = n
any_expression p (some (process P)) says n h = n
any_expression p (some (expression M)) says n h = h M

pub said_reason : (ts : List Term) (bs : List ℕ) (K : Kind) → ContentReason K bs (record_content ts bs K)
unfolding record_content fields
said_reason ts bs nil_k = omega arith
said_reason ts bs put_k = omega arith
said_reason ts bs take_k =
    any_program (ContentReason take_k bs) (get_elem? ts (get_or bs 1 0)) (λ P. term_record (process (take_t (length ts) (get_or bs 0 0) P))) (λ e. omega arith) (λ P. omega arith)
said_reason ts bs repeat_k =
    any_program (ContentReason repeat_k bs) (get_elem? ts (get_or bs 1 0)) (λ P. term_record (process (repeat_t (length ts) (get_or bs 0 0) P))) (λ e. omega arith) (λ P. omega arith)
said_reason ts bs par_k =
    any_program (ContentReason par_k bs) (get_elem? ts (get_or bs 0 0)) (λ P. with_program ts bs 1 (λ Q. term_record (process (par_t (length ts) P Q)))) (λ e. omega arith)
    (λ P. any_program (ContentReason par_k bs) (get_elem? ts (get_or bs 1 0)) (λ Q. term_record (process (par_t (length ts) P Q))) (λ e. omega arith) (λ Q. omega arith))
said_reason ts bs atom_k =
    any_expression (ContentReason atom_k bs) (get_elem? ts (get_or bs 0 0)) (λ M. term_record (process (atom_t (length ts) M))) (λ e. omega arith) (λ M. omega arith)
said_reason ts bs end_k = omega arith
said_reason ts bs retry_k = omega arith
said_reason ts bs rd_k =
    any_expression (ContentReason rd_k bs) (get_elem? ts (get_or bs 1 0)) (λ M. term_record (expression (rd_t (length ts) (get_or bs 0 0) M))) (λ e. omega arith) (λ M. omega arith)
said_reason ts bs wt_k =
    any_expression (ContentReason wt_k bs) (get_elem? ts (get_or bs 1 0)) (λ M. term_record (expression (wt_t (length ts) (get_or bs 0 0) M))) (λ e. omega arith) (λ M. omega arith)
said_reason ts bs or_else_k =
    any_expression (ContentReason or_else_k bs) (get_elem? ts (get_or bs 0 0)) (λ M. with_expression ts bs 1 (λ N. term_record (expression (or_else_t (length ts) M N)))) (λ e. omega arith)
    (λ M. any_expression (ContentReason or_else_k bs) (get_elem? ts (get_or bs 1 0)) (λ N. term_record (expression (or_else_t (length ts) M N))) (λ e. omega arith) (λ N. omega arith))
said_reason ts bs tokens_k = (refl, refl, refl, refl)
said_reason ts bs start_k =
    any_program (ContentReason start_k bs) (get_elem? ts (get_or bs 0 0)) start_record (λ e. omega arith) (λ P. (refl, refl))

-- kinds 1 to 11 add a term
abbrev pub AddsReason : Kind → Option Field → Type 0
AddsReason K none = 11 < kind_byte K
AddsReason K (some F) = kind_byte K ≤ 11

pub adds_reason : (K : Kind) → AddsReason K (adds K)
adds_reason nil_k = omega arith
adds_reason put_k = omega arith
adds_reason take_k = omega arith
adds_reason repeat_k = omega arith
adds_reason par_k = omega arith
adds_reason atom_k = omega arith
adds_reason end_k = omega arith
adds_reason retry_k = omega arith
adds_reason rd_k = omega arith
adds_reason wt_k = omega arith
adds_reason or_else_k = omega arith
adds_reason tokens_k = omega arith
adds_reason start_k = omega arith

-- ---- the printed bodies

-- the fields of each kind are the body that is printed for its number
bodies_as_stated : map (λ K. (kind_byte K, fields K)) kinds ≡ stated_bodies
unfolding kinds fields stated_bodies
bodies_as_stated = refl

pub body_of : (k : ℕ) (K : Kind) → kind_by_number k ≡ some K → Body k (fields K)
unfolding kind_by_number
body_of zero K e = absurd (let z : ◌≡◌ {A = ℕ} 0 1 = cc in omega arith)
body_of (suc j) K e =
    (j, rw (kind_number (suc j) K e, ← bodies_as_stated) (found_map (λ L. (kind_byte L, fields L)) kinds j K e))

pub body_is : (k : ℕ) (K : Kind) → kind_by_number k ≡ some K → (fs : List Field) → Body k fs → fs ≡ fields K
unfolding kind_by_number kinds stated_bodies
body_is k K e fs (i, g) = go (found_at kinds i (found_below stated_bodies i (k, fs) g))
  where
    go : (L : Kind) × (get_elem? kinds i ≡ some L) → fs ≡ fields K
    go (L, q) =
        let row : ◌≡◌ {A = Option (ℕ × List Field)} (some (kind_byte L, fields L)) (some (k, fs)) =
        sym (found_map (λ J. (kind_byte J, fields J)) kinds i L q) ∙ ap (λ rows. get_elem? rows i) bodies_as_stated ∙
        g in
        let same : ◌≡◌ {A = ℕ × List Field} (kind_byte L, fields L) (k, fs) = cc in
        let number : suc i ≡ k = kind_number (suc i) L q ∙ ap (λ x. x.0) same in
        let kind : K ≡ L = (let z : kind_by_number (suc i) ≡ some K = ap kind_by_number number ∙ e in cc) in
        rw kind (sym (ap (λ x. x.1) same))

-- ---- what a record says

pub read_as_stated : ReadAsStated
unfolding ReadAsStated
read_as_stated ts k bs w c nil1 = (nil_k, refl, refl, refl)
read_as_stated ts k bs w c put2 = (put_k, refl, refl, refl)
read_as_stated ts k bs w c (take3 e) = (take_k, refl, refl, rw e refl)
read_as_stated ts k bs w c (repeat4 e) = (repeat_k, refl, refl, rw e refl)
read_as_stated ts k bs w c (par5 e f) = (par_k, refl, refl, rw (e, f) refl)
read_as_stated ts k bs w c (atom6 e) = (atom_k, refl, refl, rw e refl)
read_as_stated ts k bs w c end7 = (end_k, refl, refl, refl)
read_as_stated ts k bs w c retry8 = (retry_k, refl, refl, refl)
read_as_stated ts k bs w c (rd9 e) = (rd_k, refl, refl, rw e refl)
read_as_stated ts k bs w c (wt10 e) = (wt_k, refl, refl, rw e refl)
read_as_stated ts k bs w c (or_else11 e f) = (or_else_k, refl, refl, rw (e, f) refl)
read_as_stated ts k bs w c tokens12 = (tokens_k, refl, refl, refl)
read_as_stated ts k bs w c (start13 e) = (start_k, refl, refl, rw e refl)

-- bytes for these fields, with the terms that they refer to
pub data Fits (ts : List Term) : List Field → List ℕ → Type 0 where
  no_field : {bs : List ℕ} → Fits ts [] bs
  a_channel : {b : ℕ} {bs : List ℕ} {fs : List Field} → Fits ts fs bs → Fits ts (channel_f ∷ fs) (b ∷ bs)
  a_program : {b : ℕ} {bs : List ℕ} {fs : List Field} {P : Program} → get_elem? ts b ≡ some (process P) → Fits ts fs bs →
      Fits ts (program_f ∷ fs) (b ∷ bs)
  an_expression : {b : ℕ} {bs : List ℕ} {fs : List Field} {M : Expression} → get_elem? ts b ≡ some (expression M) →
      Fits ts fs bs →
      Fits ts (expression_f ∷ fs) (b ∷ bs)
  an_amount : {b : ℕ} {bs : List ℕ} {fs : List Field} → Fits ts fs bs → Fits ts (amount_f ∷ fs) (b ∷ bs)

-- a record with such a body is printed as it is read
pub printed_as_read : (ts : List Term) (K : Kind) (bs : List ℕ) → Fits ts (fields K) bs →
    RecordAsStated ts (kind_byte K ∷ bs) (suc (length (fields K))) (record_content ts bs K)
unfolding fields record_content
printed_as_read ts nil_k bs no_field = nil1
printed_as_read ts put_k bs (a_channel no_field) = put2
printed_as_read ts take_k bs (a_channel (a_program e no_field)) = rw e (take3 e)
printed_as_read ts repeat_k bs (a_channel (a_program e no_field)) = rw e (repeat4 e)
printed_as_read ts par_k bs (a_program e (a_program f no_field)) = rw (e, f) (par5 e f)
printed_as_read ts atom_k bs (an_expression e no_field) = rw e (atom6 e)
printed_as_read ts end_k bs no_field = end7
printed_as_read ts retry_k bs no_field = retry8
printed_as_read ts rd_k bs (a_channel (an_expression e no_field)) = rw e (rd9 e)
printed_as_read ts wt_k bs (a_channel (an_expression e no_field)) = rw e (wt10 e)
printed_as_read ts or_else_k bs (an_expression e (an_expression f no_field)) = rw (e, f) (or_else11 e f)
printed_as_read ts tokens_k bs (a_channel (an_amount no_field)) = tokens12
printed_as_read ts start_k bs (a_program e no_field) = rw e (start13 e)

-- and a record as printed says something
pub says_something : (ts : List Term) (bs : List ℕ) (w : ℕ) → RecordAsStated ts bs w nothing → ⊥
says_something ts bs w h = elim h [ ]
