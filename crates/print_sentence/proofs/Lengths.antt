-- How long the parts of a sentence are at most, from how long a sentence is: beside the longest other parts.
-- Assumes nothing.
use Prim.Native.Nat.{ℕ, ◌+◌, ◌≤◌, ◌<◌}
use native.Mathlib.Omega.{arith}
use mathlib.Core.Path.{◌≡◌, refl}
use mathlib.Core.List.{◌++◌}
use lib.ListN.{length, length-append}
use Rattle.semantics.specs.Definitions.Shortage.{Shortage, short}
use Rattle.semantics.specs.Definitions.Moves.{Reply, moved_by, refused_by}
use Rattle.semantics.specs.Definitions.Report.{decimal, digits}
use Rattle.semantics.specs.Definitions.Sentence.{ascii, rule_words, words_for, named, node_named, choice_named, short_named, reply_named, sentence}
use Rattle.semantics.specs.Claims.Sentences.{AllBytes}
use Rattle.semantics.specs.Checks.Sentences.{LongestSentence}
use Rattle.theorems.proofs.Sentences.{longest_sentence}

sentence_length : (k i n : ℕ) (a : Reply) → length (sentence k i n a) ≡ length (choice_named k i n) + (length (reply_named a) + 1)
unfolding sentence ascii
sentence_length k i n a = let x = length-append (choice_named k i n) (reply_named a ++ ascii ".") in let y = length-append (reply_named a) (ascii ".") in omega arith

-- 33, 61, 23 and 38 bytes
longest_choice : length (choice_named 255 255 255) ≡ 33
unfolding choice_named node_named named ascii decimal digits
longest_choice = refl

longest_short : length (short_named (short 255 255)) ≡ 23
unfolding short_named named ascii decimal digits
longest_short = refl

longest_rule : length (named " moved by rule " 3 ++ words_for rule_words 3) ≡ 38
unfolding named ascii decimal digits words_for rule_words
longest_rule = refl

moved_length : (n : ℕ) (w : Shortage) →
    length (reply_named (moved_by n w)) ≡ length (named " moved by rule " n ++ words_for rule_words n) + length (short_named w)
unfolding reply_named
moved_length n w = length-append (named " moved by rule " n ++ words_for rule_words n) (short_named w)

pub choice_short : (k i n : ℕ) → k < 256 → i < 256 → n < 256 → length (choice_named k i n) ≤ 33
unfolding LongestSentence
choice_short k i n x y z =
    let l = longest_sentence k i n (moved_by 3 (short 255 255)) (omega arith) in
    let a = sentence_length k i n (moved_by 3 (short 255 255)) in
    let b = moved_length 3 (short 255 255) in
    let c = longest_rule in
    let d = longest_short in omega arith

reply_short : (a : Reply) → AllBytes 255 255 255 a → length (reply_named a) ≤ 61
unfolding LongestSentence
reply_short a bytes =
    let l = longest_sentence 255 255 255 a bytes in
    let b = sentence_length 255 255 255 a in
    let c = longest_choice in omega arith

pub refusal_short : (n : ℕ) → n < 256 → length (reply_named (refused_by n)) ≤ 61
refusal_short n x = reply_short (refused_by n) (omega arith)

pub rule_short : (n : ℕ) → n < 256 → length (named " moved by rule " n ++ words_for rule_words n) ≤ 38
rule_short n x =
    let l = reply_short (moved_by n (short 255 255)) (omega arith) in
    let b = moved_length n (short 255 255) in
    let d = longest_short in omega arith

pub short_short : (a k : ℕ) → a < 256 → k < 256 → length (short_named (short a k)) ≤ 23
short_short a k x y =
    let l = reply_short (moved_by 3 (short a k)) (omega arith) in
    let b = moved_length 3 (short a k) in
    let c = longest_rule in omega arith
