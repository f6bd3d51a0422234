-- The claims of specs/Claims/Sentences, and what specs/Checks/Sentences says of words, call and room.
-- Assumes nothing.
use Prim.Native.Nat.{ℕ, zero, suc, ◌+◌, ◌≤◌, ◌<◌}
use Prim.Native.String.{String}
use native.Mathlib.Omega.{arith}
use mathlib.Core.Path.{◌≡◌, refl, sym, ap, ◌∙◌}
use mathlib.Core.Bool.{Bool, true, false, cond, ◌&&◌}
use mathlib.Core.List.{List, [], ◌∷◌, ◌++◌, append_assoc, append_cancel_left}
use lib.ListN.{length, get_or, drop, length-append, length-drop}
use lib.Seq.{take-append_seam, drop-append_seam}
use lib.Dec.{leb, eqb}
use borrow.Author.Tests.{leb-true, lt-ltb, le-ltb, eqb-true, eqb-false}
use Rattle.semantics.specs.Definitions.Basics.{All, all_of, Bytes}
use Rattle.semantics.specs.Definitions.Shortage.{Shortage, enough, short}
use Rattle.semantics.specs.Definitions.Moves.{Reply, moved_by, refused_by}
use Rattle.semantics.specs.Definitions.Report.{decimal}
use Rattle.semantics.specs.Definitions.Sentence.{ascii, rule_words, refusal_words, words_for, named, node_named, short_named, reply_named, sentence, told}
use Rattle.semantics.specs.Claims.Sentences.{short_numbers, reply_numbers, AllBytes, SentencesAreShort, SentencesArePrintable, SameChoiceAndReply, SentencesTellApart}
use Rattle.semantics.specs.Checks.Sentences.{WordsEnd, ShortBuffersRefused, Stands, SentenceStands, RoomOfAShortage, LongestSentence, RoomIsLeft}
use Rattle.theorems.proofs.Lists.{all_append, all_weaken}
use Rattle.theorems.proofs.ByteReads.{and_true}
use Rattle.theorems.proofs.Decimals.{decimal_bytes, decimal_short, NoDigit, decimal_apart}

-- ---- numbers without words

pub words_past : (ws : List String) (n : ℕ) → length ws < n → words_for ws n ≡ []
unfolding words_for
words_past [] n l = refl
words_past (w ∷ ws) zero l = absurd (omega arith)
words_past (w ∷ ws) (suc zero) l = absurd (omega arith)
words_past (w ∷ ws) (suc (suc n)) l = words_past ws (suc n) (omega arith)

pub words_end : WordsEnd
unfolding WordsEnd
words_end n = (λ l. words_past rule_words n l, λ l. words_past refusal_words n l)

-- ---- the parts of a sentence

-- in one row, with these bytes for the node
abbrev row_of : (kind position : ℕ) → List ℕ → Reply → List ℕ
row_of k p node a = named "Kind " k ++ (named " at station " p ++ (node ++ (reply_named a ++ ascii ".")))

in_row : (k p n : ℕ) (a : Reply) → sentence k p n a ≡ row_of k p (node_named k n) a
unfolding sentence
in_row k p n a = regroup (named "Kind " k) (named " at station " p) (node_named k n) _
  where
    regroup : (a b c d : List ℕ) → (a ++ (b ++ c)) ++ d ≡ a ++ (b ++ (c ++ d))
    regroup a b c d = simp append_assoc

-- of kind 1 no node is named
node_by_kind : (P : (ℕ → List ℕ) → Type 0) (k : ℕ) → (k ≡ 1 → P (λ n. [])) →
    (¬ (k ≡ 1) → P (named ", node ")) → P (node_named k)
unfolding node_named
node_by_kind P k none some = go (eqb k 1) refl
  where
    go : (b : Bool) → eqb k 1 ≡ b → P (λ n. cond b [] (named ", node " n))
    go true e = none (eqb-true k 1 e)
    go false e = some (eqb-false k 1 e)

-- ---- a test of each number, by computation

every_below : ℕ → (ℕ → Bool) → Bool
every_below zero p = true
every_below (suc m) p = p m && every_below m p

every_below_holds : (m : ℕ) (p : ℕ → Bool) → every_below m p ≡ true → (n : ℕ) → n < m → p n ≡ true
unfolding every_below
every_below_holds zero p h n l = absurd (omega arith)
every_below_holds (suc m) p h n l =
    let both = and_true (p m) (every_below m p) h in go (eqb n m) refl both.0 (λ k. every_below_holds m p both.1 n k)
  where
    go : (b : Bool) → eqb n m ≡ b → p m ≡ true → (n < m → p n ≡ true) → p n ≡ true
    go true e q r = let z = eqb-true n m e in rw z q
    go false e q r = let z = eqb-false n m e in r (omega arith)

-- a rule and a refusal, each with its words
abbrev rule_named : ℕ → List ℕ
rule_named n = named " moved by rule " n ++ words_for rule_words n

abbrev refusal_named : ℕ → List ℕ
refusal_named n = named " met refusal " n ++ words_for refusal_words n

-- ---- short

-- longer words stand behind shorter numbers, so each number is bounded together with its words
rule_short : (n : ℕ) → n ≤ 255 → length (rule_named n) ≤ 38
unfolding every_below named words_for rule_words
rule_short n l = leb-true (length (rule_named n)) 38 (every_below_holds 256 (λ n. leb (length (rule_named n)) 38) refl n (omega arith))

refusal_short : (n : ℕ) → n ≤ 255 → length (refusal_named n) ≤ 39
unfolding every_below named words_for refusal_words
refusal_short n l = leb-true (length (refusal_named n)) 39 (every_below_holds 256 (λ n. leb (length (refusal_named n)) 39) refl n (omega arith))

short_short : (w : Shortage) → Bytes (short_numbers w) → length (short_named w) ≤ 23
unfolding short_named named ascii
short_short enough l = omega arith
short_short (short a k) l =
    let x = decimal_short 2 a (omega arith) in let y = decimal_short 2 k (omega arith) in simp length-append (omega arith)

pub room_of_a_shortage : RoomOfAShortage
unfolding RoomOfAShortage
room_of_a_shortage = short_short

reply_short : (a : Reply) → Bytes (reply_numbers a) → length (reply_named a) ≤ 61
unfolding reply_named
reply_short (moved_by n w) l =
    let x = rule_short n l.0 in let y = short_short w l.1 in let z = length-append (rule_named n) (short_named w) in omega arith
reply_short (refused_by n) l = let x = refusal_short n l.0 in omega arith

node_short : (k n : ℕ) → n ≤ 255 → length (node_named k n) ≤ 10
unfolding named
node_short k n l =
    let d = decimal_short 2 n (omega arith) in
    node_by_kind (λ f. length (f n) ≤ 10) k (λ one. omega arith) (λ other. simp length-append (omega arith))

-- all but the reply are at most 34
sentence_short : (k p n : ℕ) (a : Reply) → Bytes (k ∷ p ∷ n ∷ []) → (most : ℕ) → length (reply_named a) ≤ most →
    length (sentence k p n a) ≤ 34 + most
unfolding named
sentence_short k p n a bytes most r =
    let x = decimal_short 2 k (omega arith) in
    let y = decimal_short 2 p (omega arith) in
    let z = node_short k n (omega arith) in
    rw (in_row k p n a) (simp length-append (omega arith))

pub room_is_left : RoomIsLeft
unfolding RoomIsLeft reply_named short_named
room_is_left k p n m bytes =
    let named : Bytes (k ∷ p ∷ n ∷ []) = (bytes.0, (bytes.1.0, (bytes.1.1.0, tt))) in
    let rule : length (rule_named m ++ []) ≤ 39 =
    let y = rule_short m (omega arith) in let z = length-append (rule_named m) [] in omega arith in (
      sentence_short k p n (moved_by m enough) named 39 rule,
      sentence_short k p n (refused_by m) named 39 (refusal_short m (omega arith)),
    )

pub longest_sentence : LongestSentence
unfolding LongestSentence
longest_sentence k p n a bytes =
    sentence_short k p n a (bytes.0, (bytes.1.0, (bytes.1.1.0, tt))) 61 (reply_short a bytes.1.1.1)

pub sentences_are_short : SentencesAreShort
unfolding SentencesAreShort LongestSentence
sentences_are_short k p n a bytes = let l = longest_sentence k p n a bytes in omega arith

-- ---- printable

Printable : List ℕ → Type 0
Printable s = All (λ b. (32 ≤ b) × (b ≤ 126)) s

is_printable : List ℕ → Bool
unfolding all_of
is_printable s = all_of (λ b. leb 32 b && leb b 126) s

printable : (s : List ℕ) → is_printable s ≡ true → Printable s
unfolding is_printable Printable
printable [] h = tt
printable (b ∷ bs) h =
    let both = and_true (leb 32 b && leb b 126) (is_printable bs) h in
    let here = and_true (leb 32 b) (leb b 126) both.0 in
    ((leb-true 32 b here.0, leb-true b 126 here.1), printable bs both.1)

printable_append : (s t : List ℕ) → Printable s → Printable t → Printable (s ++ t)
unfolding Printable
printable_append s t = all_append _ s t

printable_number : (n : ℕ) → Printable (decimal n)
unfolding Printable
printable_number n = all_weaken _ _ (λ b l. omega arith) (decimal n) (decimal_bytes n)

printable_named : (x : String) (n : ℕ) → is_printable (ascii x) ≡ true → Printable (named x n)
unfolding named
printable_named x n e = printable_append (ascii x) (decimal n) (printable (ascii x) e) (printable_number n)

printable_rule : (n : ℕ) → n ≤ 255 → Printable (rule_named n)
unfolding every_below named words_for rule_words is_printable
printable_rule n l = printable (rule_named n) (every_below_holds 256 (λ n. is_printable (rule_named n)) refl n (omega arith))

printable_refusal : (n : ℕ) → n ≤ 255 → Printable (refusal_named n)
unfolding every_below named words_for refusal_words is_printable
printable_refusal n l = printable (refusal_named n) (every_below_holds 256 (λ n. is_printable (refusal_named n)) refl n (omega arith))

printable_short : (w : Shortage) → Printable (short_named w)
unfolding short_named ascii is_printable
printable_short enough = printable [] refl
printable_short (short a k) = printable_append _ _ (printable_named ", tray " a refl) (printable_named " short by " k refl)

printable_reply : (a : Reply) → Bytes (reply_numbers a) → Printable (reply_named a)
unfolding reply_named
printable_reply (moved_by n w) l = printable_append (rule_named n) (short_named w) (printable_rule n l.0) (printable_short w)
printable_reply (refused_by n) l = printable_refusal n l.0

sentence_printable : (k p n : ℕ) (a : Reply) → AllBytes k p n a → Printable (sentence k p n a)
unfolding ascii is_printable
sentence_printable k p n a bytes =
    let none = printable [] refl in
    let node = printable_named ", node " n refl in
    rw (in_row k p n a)
    (printable_append _ _ (printable_named "Kind " k refl)
    (printable_append _ _ (printable_named " at station " p refl)
    (printable_append _ _ (node_by_kind (λ f. Printable (f n)) k (λ one. none) (λ other. node))
    (printable_append _ _ (printable_reply a bytes.1.1.1) (printable (ascii ".") refl)))))

pub sentences_are_printable : SentencesArePrintable
unfolding SentencesArePrintable Printable
sentences_are_printable = sentence_printable

-- ---- no digit follows a number

words_no_digit : (ws : List String) (n : ℕ) (s : List ℕ) → NoDigit s → NoDigit (words_for ws n ++ s)
unfolding words_for
words_no_digit [] n s h = h
words_no_digit (w ∷ ws) zero s h = h
words_no_digit (w ∷ ws) (suc zero) s h = tt
words_no_digit (w ∷ ws) (suc (suc n)) s h = words_no_digit ws (suc n) s h

short_ends : (w : Shortage) → NoDigit (short_named w ++ ascii ".")
unfolding short_named
short_ends enough = tt
short_ends (short a k) = tt

by_ends : (k : ℕ) → NoDigit (named " short by " k ++ ascii ".")
unfolding named
by_ends k = tt

reply_ends : (a : Reply) → NoDigit (reply_named a ++ ascii ".")
unfolding reply_named
reply_ends (moved_by n w) = tt
reply_ends (refused_by n) = tt

station_ends : (p : ℕ) (s : List ℕ) → NoDigit (named " at station " p ++ s)
unfolding named
station_ends p s = tt

node_ends : (k n : ℕ) (s : List ℕ) → NoDigit s → NoDigit (node_named k n ++ s)
unfolding named
node_ends k n s h = node_by_kind (λ f. NoDigit (f n ++ s)) k (λ one. h) (λ other. tt)

-- ---- no two alike

-- a text, a number behind it and what follows
peel : (x : String) (a b : ℕ) (s t : List ℕ) → a ≤ 255 → b ≤ 255 → NoDigit s → NoDigit t →
    named x a ++ s ≡ named x b ++ t → (a ≡ b) × (s ≡ t)
unfolding named
peel x a b s t l m p q e =
    decimal_apart a b s t (omega arith) (omega arith) p q
    (append_cancel_left (ascii x) (decimal a ++ s) (decimal b ++ t) (simp append_assoc at e))

node_same : (k n n' : ℕ) → (¬ (k ≡ 1) → n ≡ n') → node_named k n ≡ node_named k n'
node_same k n n' h =
    node_by_kind (λ f. f n ≡ f n') k (λ one. refl) (λ other. ap (named ", node ") (h other))

node_apart : (k n n' : ℕ) (s t : List ℕ) → n ≤ 255 → n' ≤ 255 → NoDigit s → NoDigit t →
    node_named k n ++ s ≡ node_named k n' ++ t → (¬ (k ≡ 1) → n ≡ n') × (s ≡ t)
node_apart k n n' s t l m p q =
    node_by_kind (λ f. f n ++ s ≡ f n' ++ t → (¬ (k ≡ 1) → n ≡ n') × (s ≡ t)) k
    (λ one e. (λ other. absurd (other one), e))
    (λ other e. let same = peel ", node " n n' s t l m p q e in (λ h. same.0, same.1))

-- a number with its words and what follows
number_apart : (x : String) (ws : List String) (a b : ℕ) (s t : List ℕ) → a ≤ 255 → b ≤ 255 → NoDigit s → NoDigit t →
    (named x a ++ words_for ws a) ++ s ≡ (named x b ++ words_for ws b) ++ t → (a ≡ b) × (s ≡ t)
number_apart x ws a b s t l m p q e =
    let f : named x a ++ (words_for ws a ++ s) ≡ named x b ++ (words_for ws b ++ t) =
    sym (append_assoc (named x a) (words_for ws a) s) ∙ e ∙ append_assoc (named x b) (words_for ws b) t in
    let (same, rest) = peel x a b _ _ l m (words_no_digit ws a s p) (words_no_digit ws b t q) f in
    (same, append_cancel_left (words_for ws a) s t (rw (← same) at rest))

-- what was short: a comma or the end, the tray, and by how many
short_apart : (v w : Shortage) → Bytes (short_numbers v) → Bytes (short_numbers w) →
    short_named v ++ ascii "." ≡ short_named w ++ ascii "." → v ≡ w
unfolding short_named
short_apart enough enough l m e = refl
short_apart enough (short b j) l m e = let z : ◌≡◌ {A = ℕ} 46 44 = ap (λ s. get_or s 0 0) e in absurd (omega arith)
short_apart (short a k) enough l m e = let z : ◌≡◌ {A = ℕ} 44 46 = ap (λ s. get_or s 0 0) e in absurd (omega arith)
short_apart (short a k) (short b j) l m e =
    let f : named ", tray " a ++ (named " short by " k ++ ascii ".") ≡ named ", tray " b ++ (named " short by " j ++ ascii ".") =
    sym (append_assoc (named ", tray " a) (named " short by " k) (ascii ".")) ∙ e ∙
    append_assoc (named ", tray " b) (named " short by " j) (ascii ".") in
    let (tray, rest) = peel ", tray " a b _ _ l.0 m.0 (by_ends k) (by_ends j) f in
    let (by, end) = peel " short by " k j _ _ l.1.0 m.1.0 tt tt rest in
    rw (tray, by)

-- moved and refused differ at the third byte of their texts
reply_apart : (a b : Reply) → Bytes (reply_numbers a) → Bytes (reply_numbers b) →
    reply_named a ++ ascii "." ≡ reply_named b ++ ascii "." → a ≡ b
unfolding reply_named
reply_apart (moved_by n v) (moved_by m w) l k e =
    let f : rule_named n ++ (short_named v ++ ascii ".") ≡ rule_named m ++ (short_named w ++ ascii ".") =
    sym (append_assoc (rule_named n) (short_named v) (ascii ".")) ∙ e ∙ append_assoc (rule_named m) (short_named w) (ascii ".") in
    let (same, rest) = number_apart " moved by rule " rule_words n m _ _ l.0 k.0 (short_ends v) (short_ends w) f in
    let short_same = short_apart v w l.1 k.1 rest in
    rw (same, short_same)
reply_apart (refused_by n) (refused_by m) l k e =
    ap refused_by (number_apart " met refusal " refusal_words n m (ascii ".") (ascii ".") l.0 k.0 tt tt e).0
reply_apart (moved_by n v) (refused_by m) l k e =
    let z : ◌≡◌ {A = ℕ} 111 101 = ap (λ s. get_or s 2 0) e in absurd (omega arith)
reply_apart (refused_by n) (moved_by m w) l k e =
    let z : ◌≡◌ {A = ℕ} 101 111 = ap (λ s. get_or s 2 0) e in absurd (omega arith)

module _ (k p n : ℕ) (a : Reply) (k' p' n' : ℕ) (a' : Reply) where
  same_of_alike : AllBytes k p n a → AllBytes k' p' n' a' → sentence k p n a ≡ sentence k' p' n' a' →
      SameChoiceAndReply k p n a k' p' n' a'
  unfolding ascii
  same_of_alike b b' e =
      let r = reply_named a ++ ascii "." in
      let r' = reply_named a' ++ ascii "." in
      let end = reply_ends a in
      let end' = reply_ends a' in
      let whole = sym (in_row k p n a) ∙ e ∙ in_row k' p' n' a' in
      let kind = peel "Kind " k k' _ _ (omega arith) (omega arith) (station_ends p _) (station_ends p' _) whole in
      let position =
      peel " at station " p p' _ _ (omega arith) (omega arith) (node_ends k n r end) (node_ends k' n' r' end')
      kind.1 in
      let node = node_apart k n n' r r' (omega arith) (omega arith) end end' (rw (← kind.0) at position.1) in
      record {
        kind = kind.0;
        position = position.0;
        node = node.0;
        reply = reply_apart a a' b.1.1.1 b'.1.1.1 node.1;
      }

  alike_of_same : SameChoiceAndReply k p n a k' p' n' a' → sentence k p n a ≡ sentence k' p' n' a'
  alike_of_same s = let node = node_same k n n' s.node in in_row k p n a ∙ (cc) ∙ sym (in_row k' p' n' a')

pub sentences_tell_apart : SentencesTellApart
unfolding SentencesTellApart
sentences_tell_apart k p n a k' p' n' a' b b' =
    (same_of_alike k p n a k' p' n' a' b b', alike_of_same k p n a k' p' n' a')

-- ---- the call

pub short_buffers_refused : ShortBuffersRefused
unfolding ShortBuffersRefused
short_buffers_refused k p n a buffer l = rw (lt-ltb (length buffer) 96 l)

text_stands : (s buffer : List ℕ) → length s ≤ length buffer →
    Stands s buffer (record { answer = told (length s); buffer = s ++ drop (length s) buffer })
text_stands s buffer l =
    record {
      answer = refl;
      front = take-append_seam s (drop (length s) buffer);
      rest = drop-append_seam s (drop (length s) buffer);
      same_length = simp (length-append, length-drop) (omega arith);
    }

pub sentence_stands : SentenceStands
unfolding SentenceStands SentencesAreShort
sentence_stands k p n a buffer bytes l =
    let h = sentences_are_short k p n a bytes in
    rw (le-ltb (length buffer) 96 l) (text_stands (sentence k p n a) buffer (omega arith))
