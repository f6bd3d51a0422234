-- A choice and its answer as one English sentence, and the call that writes it (document 02, Q-1 and Q-3).
-- Assumes nothing.
use Rattle.std.specs.Prelude.{ℕ, zero, suc, cond, List, [], ◌∷◌, ◌++◌, length, drop, ltb, eqb}
use Prim.Native.Char.{code}
use Prim.Native.String as Text
use Prim.Native.String.{String}
use Rattle.semantics.specs.Definitions.Shortage.{Shortage, enough, short}
use Rattle.semantics.specs.Definitions.Moves.{Reply, moved_by, refused_by}
use Rattle.semantics.specs.Definitions.Report.{decimal}

-- the bytes of a text in ASCII
unfoldable pub ascii : String → List ℕ
ascii Text.[] = []
ascii (Text.◌∷◌ c s) = code c ∷ ascii s

-- ---- the words

-- of the rules, from 1 on
unfoldable pub rule_words : List String
rule_words =
    "token put" ∷ "token taken" ∷ "token taken, repeats" ∷ "attempt begun" ∷ "attempt given up" ∷ "commit failed" ∷
    "block committed" ∷ "read noted" ∷ "read failed" ∷ "write noted" ∷ "two ways opened" ∷ "second way kept" ∷
    "first way kept" ∷ []

-- of the refusals, from 1 on: those of the table, of the hall, of the choice
unfoldable pub refusal_words : List String
refusal_words =
    "table: unknown record" ∷ "table: record cut short" ∷ "table: too many terms" ∷ "table: no such tray" ∷
    "table: term not earlier" ∷ "table: wrong term class" ∷ "table: term too large" ∷ "table: wrong tokens" ∷
    "table: no start at end" ∷ "hall: wrong length" ∷ "hall: not well formed" ∷ "no such kind" ∷ "choice cut short" ∷
    "no such station" ∷ "station cannot do this" ∷ "no such node" ∷ "no move at this node" ∷ "tray empty" ∷
    "too many stations" ∷ "tray full" ∷ []

-- the words for a number, behind a comma; a number that has none stands alone
unfoldable pub words_for : List String → ℕ → List ℕ
unfolding ascii
words_for [] n = []
words_for (w ∷ ws) zero = []
words_for (w ∷ ws) (suc zero) = ascii ", " ++ ascii w
words_for (w ∷ ws) (suc (suc n)) = words_for ws (suc n)

-- ---- the sentence

-- a text and a number behind it
unfoldable pub named : String → ℕ → List ℕ
unfolding ascii decimal
named text n = ascii text ++ decimal n

-- kind 1 has no node: a node that comes with it is passed over
unfoldable pub node_named : (kind node : ℕ) → List ℕ
unfolding named
node_named k n = cond (eqb k 1) [] (named ", node " n)

unfoldable pub choice_named : (kind position node : ℕ) → List ℕ
unfolding named node_named
choice_named k p n = named "Kind " k ++ (named " at station " p ++ node_named k n)

-- what was short, by its tray, where something was (document 02, Q-3)
unfoldable pub short_named : Shortage → List ℕ
unfolding named
short_named enough = []
short_named (short a k) = named ", tray " a ++ named " short by " k

unfoldable pub reply_named : Reply → List ℕ
unfolding named words_for rule_words refusal_words short_named
reply_named (moved_by n w) = (named " moved by rule " n ++ words_for rule_words n) ++ short_named w
reply_named (refused_by n) = named " met refusal " n ++ words_for refusal_words n

unfoldable pub sentence : (kind position node : ℕ) → Reply → List ℕ
unfolding ascii choice_named reply_named
sentence k p n a = choice_named k p n ++ (reply_named a ++ ascii ".")

-- ---- the call

-- how many bytes a buffer must have: room for every sentence
abbrev pub sentence_room : ℕ
sentence_room = 96

-- the sentence's length, or a refusal
pub data SentenceAnswer : Type 0 where
  told : (length : ℕ) → SentenceAnswer
  not_told : (number place : ℕ) → SentenceAnswer

-- the answer, and every byte of the lent buffer afterwards
pub record SentenceCall : Type 0 where
  pub answer : SentenceAnswer
  pub buffer : List ℕ

-- refusal 21: the buffer is too short. Else the sentence stands at its front, and its other bytes are left
unfoldable pub sentence_call : (kind position node : ℕ) → Reply → (buffer : List ℕ) → SentenceCall
unfolding sentence
sentence_call k p n a buffer =
    let s = sentence k p n a in
    cond (ltb (length buffer) sentence_room) (record { answer = not_told 21 0; buffer = buffer })
    (record { answer = told (length s); buffer = s ++ drop (length s) buffer })
