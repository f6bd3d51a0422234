-- The sentences and the call that writes them, said a second time (document 02, Q-1 and Q-3): where words end; refusal
-- 21 and the buffer byte by byte; the room that is left; and worked examples, with the words of each rule and of each
-- refusal.
-- The examples are proved in proofs/Sentences, the others in the crate theorems.
-- Assumes nothing.
use Rattle.std.specs.Prelude.{ℕ, ◌≤◌, ◌<◌, ◌≡◌, List, [], ◌∷◌, ◌++◌, map, length, take, drop, replicate}
use Prim.Native.String.{String}
use Rattle.semantics.specs.Definitions.Basics.{Bytes}
use Rattle.semantics.specs.Definitions.Shortage.{Shortage, enough, short}
use Rattle.semantics.specs.Definitions.Moves.{Reply, moved_by, refused_by}
use Rattle.semantics.specs.Definitions.Sentence.{ascii, rule_words, refusal_words, words_for, short_named, sentence, SentenceAnswer}
use Rattle.semantics.specs.Definitions.Sentence.{told, not_told, SentenceCall, sentence_call}
use Rattle.semantics.specs.Claims.Sentences.{short_numbers, AllBytes}

-- ---- numbers that stand alone

-- behind the thirteen rules and the twenty refusals no number has words
unfoldable pub WordsEnd : Type 0
unfolding words_for rule_words refusal_words
WordsEnd = (n : ℕ) → (13 < n → words_for rule_words n ≡ []) × (20 < n → words_for refusal_words n ≡ [])

-- ---- the call

-- a buffer below 96 bytes is refused, whatever else is handed in, and left as it was
unfoldable pub ShortBuffersRefused : Type 0
unfolding sentence_call
ShortBuffersRefused =
    (k p n : ℕ) (a : Reply) (buffer : List ℕ) → length buffer < 96 →
    sentence_call k p n a buffer ≡ (record { answer = not_told 21 0; buffer = buffer })

-- in any other the sentence stands from the front on, its length is answered, and the bytes behind it are as they were
pub record Stands (s buffer : List ℕ) (c : SentenceCall) : Type 0 where
  pub answer : c.answer ≡ told (length s)
  pub front : take (length s) c.buffer ≡ s
  pub rest : drop (length s) c.buffer ≡ drop (length s) buffer
  pub same_length : length c.buffer ≡ length buffer

unfoldable pub SentenceStands : Type 0
unfolding sentence_call sentence
SentenceStands =
    (k p n : ℕ) (a : Reply) (buffer : List ℕ) → AllBytes k p n a → 96 ≤ length buffer →
    Stands (sentence k p n a) buffer (sentence_call k p n a buffer)

-- ---- room

-- a tray and by how many it was short, `, tray 255 short by 255`, are 23 bytes at most
unfoldable pub RoomOfAShortage : Type 0
unfolding short_named
RoomOfAShortage = (w : Shortage) → Bytes (short_numbers w) → length (short_named w) ≤ 23

-- no sentence has more than 95
unfoldable pub LongestSentence : Type 0
unfolding sentence
LongestSentence = (k p n : ℕ) (a : Reply) → AllBytes k p n a → length (sentence k p n a) ≤ 95

-- a sentence that names no tray is at least 23 bytes shorter than it may be, so that it can tell a tray and a count as
-- well (Q-9: `, tray 255, count 255`)
unfoldable pub RoomIsLeft : Type 0
unfolding sentence
RoomIsLeft =
    (k p n m : ℕ) → Bytes (k ∷ p ∷ n ∷ m ∷ []) →
    (length (sentence k p n (moved_by m enough)) ≤ 73) × (length (sentence k p n (refused_by m)) ≤ 73)

-- ---- worked examples

pub record SentenceRow : Type 0 where
  pub kind : ℕ
  pub position : ℕ
  pub node : ℕ
  pub reply : Reply
  pub text : String

unfoldable pub said : (kind position node : ℕ) → Reply → String → SentenceRow
said k p n a x = record { kind = k; position = p; node = n; reply = a; text = x }

unfoldable pub sentence_rows : List SentenceRow
unfolding said
sentence_rows =
    -- the thirteen rules, with nothing short, which no hall answers by 6 and 9
    said 1 1 0 (moved_by 1 enough) "Kind 1 at station 1 moved by rule 1, token put." ∷
    said 1 2 0 (moved_by 2 enough) "Kind 1 at station 2 moved by rule 2, token taken." ∷
    said 1 3 0 (moved_by 3 enough) "Kind 1 at station 3 moved by rule 3, token taken, repeats." ∷
    said 1 4 0 (moved_by 4 enough) "Kind 1 at station 4 moved by rule 4, attempt begun." ∷
    said 1 5 0 (moved_by 5 enough) "Kind 1 at station 5 moved by rule 5, attempt given up." ∷
    said 1 6 0 (moved_by 6 enough) "Kind 1 at station 6 moved by rule 6, commit failed." ∷
    said 1 7 0 (moved_by 7 enough) "Kind 1 at station 7 moved by rule 7, block committed." ∷
    said 2 8 10 (moved_by 8 enough) "Kind 2 at station 8, node 10 moved by rule 8, read noted." ∷
    said 2 9 11 (moved_by 9 enough) "Kind 2 at station 9, node 11 moved by rule 9, read failed." ∷
    said 2 10 12 (moved_by 10 enough) "Kind 2 at station 10, node 12 moved by rule 10, write noted." ∷
    said 2 11 13 (moved_by 11 enough) "Kind 2 at station 11, node 13 moved by rule 11, two ways opened." ∷
    said 2 12 14 (moved_by 12 enough) "Kind 2 at station 12, node 14 moved by rule 12, second way kept." ∷
    said 2 13 15 (moved_by 13 enough) "Kind 2 at station 13, node 15 moved by rule 13, first way kept." ∷
    -- what was short, at rules 6 and 9
    said 1 0 0 (moved_by 6 (short 3 1)) "Kind 1 at station 0 moved by rule 6, commit failed, tray 3 short by 1." ∷
    said 2 1 2 (moved_by 9 (short 15 16)) "Kind 2 at station 1, node 2 moved by rule 9, read failed, tray 15 short by 16." ∷
    -- and at any rule, with any numbers
    said 1 0 0 (moved_by 7 (short 0 0)) "Kind 1 at station 0 moved by rule 7, block committed, tray 0 short by 0." ∷
    said 1 0 0 (moved_by 0 (short 255 100)) "Kind 1 at station 0 moved by rule 0, tray 255 short by 100." ∷
    said 1 0 0 (moved_by 14 (short 9 10)) "Kind 1 at station 0 moved by rule 14, tray 9 short by 10." ∷
    -- the twenty refusals; a node of kind 1 is not named
    said 1 0 1 (refused_by 1) "Kind 1 at station 0 met refusal 1, table: unknown record." ∷
    said 1 0 2 (refused_by 2) "Kind 1 at station 0 met refusal 2, table: record cut short." ∷
    said 1 0 3 (refused_by 3) "Kind 1 at station 0 met refusal 3, table: too many terms." ∷
    said 1 0 4 (refused_by 4) "Kind 1 at station 0 met refusal 4, table: no such tray." ∷
    said 1 0 5 (refused_by 5) "Kind 1 at station 0 met refusal 5, table: term not earlier." ∷
    said 1 0 6 (refused_by 6) "Kind 1 at station 0 met refusal 6, table: wrong term class." ∷
    said 1 0 7 (refused_by 7) "Kind 1 at station 0 met refusal 7, table: term too large." ∷
    said 1 0 8 (refused_by 8) "Kind 1 at station 0 met refusal 8, table: wrong tokens." ∷
    said 1 0 9 (refused_by 9) "Kind 1 at station 0 met refusal 9, table: no start at end." ∷
    said 1 0 10 (refused_by 10) "Kind 1 at station 0 met refusal 10, hall: wrong length." ∷
    said 1 0 11 (refused_by 11) "Kind 1 at station 0 met refusal 11, hall: not well formed." ∷
    said 9 0 12 (refused_by 12) "Kind 9 at station 0, node 12 met refusal 12, no such kind." ∷
    said 2 0 13 (refused_by 13) "Kind 2 at station 0, node 13 met refusal 13, choice cut short." ∷
    said 1 0 14 (refused_by 14) "Kind 1 at station 0 met refusal 14, no such station." ∷
    said 1 0 15 (refused_by 15) "Kind 1 at station 0 met refusal 15, station cannot do this." ∷
    said 2 0 16 (refused_by 16) "Kind 2 at station 0, node 16 met refusal 16, no such node." ∷
    said 2 0 17 (refused_by 17) "Kind 2 at station 0, node 17 met refusal 17, no move at this node." ∷
    said 1 0 18 (refused_by 18) "Kind 1 at station 0 met refusal 18, tray empty." ∷
    said 1 0 19 (refused_by 19) "Kind 1 at station 0 met refusal 19, too many stations." ∷
    said 1 0 20 (refused_by 20) "Kind 1 at station 0 met refusal 20, tray full." ∷
    -- numbers without words, below and above those that have some; 21 is the refusal of a short buffer and of no choice
    said 1 0 0 (moved_by 0 enough) "Kind 1 at station 0 moved by rule 0." ∷
    said 1 0 0 (moved_by 14 enough) "Kind 1 at station 0 moved by rule 14." ∷
    said 1 0 0 (refused_by 0) "Kind 1 at station 0 met refusal 0." ∷
    said 1 0 0 (refused_by 21) "Kind 1 at station 0 met refusal 21." ∷
    -- every kind but 1 has its node, unknown ones too; one, two and three digits
    said 0 9 10 (refused_by 99) "Kind 0 at station 9, node 10 met refusal 99." ∷
    said 10 99 100 (moved_by 100 enough) "Kind 10 at station 99, node 100 moved by rule 100." ∷
    said 11 1 1 (moved_by 1 enough) "Kind 11 at station 1, node 1 moved by rule 1, token put." ∷
    said 255 255 255 (moved_by 255 enough) "Kind 255 at station 255, node 255 moved by rule 255." ∷
    said 255 255 255 (refused_by 255) "Kind 255 at station 255, node 255 met refusal 255." ∷
    -- the longest of a refusal, and of all
    said 255 255 255 (refused_by 15) "Kind 255 at station 255, node 255 met refusal 15, station cannot do this." ∷
    said 255 255 255 (moved_by 3 (short 255 255))
    "Kind 255 at station 255, node 255 moved by rule 3, token taken, repeats, tray 255 short by 255." ∷ []

unfoldable pub SentencesWorked : Type 0
unfolding sentence_rows ascii sentence
SentencesWorked =
    map (λ r. sentence r.kind r.position r.node r.reply) sentence_rows ≡
    map (λ r. ascii r.text) sentence_rows

-- one of them byte by byte
unfoldable pub SentenceInBytes : Type 0
unfolding sentence
SentenceInBytes =
    sentence 1 0 7 (moved_by 6 (short 3 1)) ≡
    75 ∷ 105 ∷ 110 ∷ 100 ∷ 32 ∷ 49 ∷ 32 ∷ 97 ∷ 116 ∷ 32 ∷ 115 ∷ 116 ∷ 97 ∷ 116 ∷ 105 ∷ 111 ∷ 110 ∷ 32 ∷ 48 ∷ 32 ∷
    109 ∷ 111 ∷ 118 ∷ 101 ∷ 100 ∷ 32 ∷ 98 ∷ 121 ∷ 32 ∷ 114 ∷ 117 ∷ 108 ∷ 101 ∷ 32 ∷ 54 ∷ 44 ∷ 32 ∷ 99 ∷ 111 ∷ 109 ∷
    109 ∷ 105 ∷ 116 ∷ 32 ∷ 102 ∷ 97 ∷ 105 ∷ 108 ∷ 101 ∷ 100 ∷ 44 ∷ 32 ∷ 116 ∷ 114 ∷ 97 ∷ 121 ∷ 32 ∷ 51 ∷ 32 ∷
    115 ∷ 104 ∷ 111 ∷ 114 ∷ 116 ∷ 32 ∷ 98 ∷ 121 ∷ 32 ∷ 49 ∷ 46 ∷ []

-- the call on buffers of 170s: how many, the answer, and the buffer afterwards
unfoldable pub called_on : ℕ → SentenceCall
unfolding sentence_call
called_on size = sentence_call 1 0 7 (moved_by 6 (short 3 1)) (replicate size 170)

unfoldable pub call_rows : List (ℕ × SentenceAnswer × List ℕ)
unfolding ascii
call_rows =
    (0, not_told 21 0, []) ∷ (95, not_told 21 0, replicate 95 170) ∷ (96, told 70, told_in 26) ∷ (97, told 70, told_in 27) ∷
    (200, told 70, told_in 130) ∷ []
  where
    told_in : ℕ → List ℕ
    told_in rest = ascii "Kind 1 at station 0 moved by rule 6, commit failed, tray 3 short by 1." ++ replicate rest 170

unfoldable pub CallsWorked : Type 0
unfolding call_rows called_on
CallsWorked =
    map (λ r. called_on r.0) call_rows ≡ map (λ r. record { answer = r.1; buffer = r.2 }) call_rows
