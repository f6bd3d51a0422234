-- What is claimed of the sentences (document 02, Q-1 and Q-3): each is short and printable, and no two choices with their
-- answers share one. Kind, position, node and the numbers told may be any bytes, whether a hall can give them or not.
-- Assumes nothing.
use Rattle.std.specs.Prelude.{ℕ, ◌≤◌, ◌≡◌, ◌↔◌, List, [], ◌∷◌, length}
use Rattle.semantics.specs.Definitions.Basics.{All, Bytes}
use Rattle.semantics.specs.Definitions.Shortage.{Shortage, enough, short}
use Rattle.semantics.specs.Definitions.Moves.{Reply, moved_by, refused_by}
use Rattle.semantics.specs.Definitions.Sentence.{sentence}

-- the numbers that a reply tells
abbrev pub short_numbers : Shortage → List ℕ
short_numbers enough = []
short_numbers (short a k) = a ∷ k ∷ []

abbrev pub reply_numbers : Reply → List ℕ
reply_numbers (moved_by n w) = n ∷ short_numbers w
reply_numbers (refused_by n) = n ∷ []

abbrev pub AllBytes : (k p n : ℕ) → Reply → Type 0
AllBytes k p n a = Bytes (k ∷ p ∷ n ∷ reply_numbers a)

-- at most 96 bytes
unfoldable pub SentencesAreShort : Type 0
unfolding sentence
SentencesAreShort = (k p n : ℕ) (a : Reply) → AllBytes k p n a → length (sentence k p n a) ≤ 96

-- printable ASCII, from the space to ~, and so no newline
unfoldable pub SentencesArePrintable : Type 0
unfolding sentence
SentencesArePrintable =
    (k p n : ℕ) (a : Reply) → AllBytes k p n a → All (λ b. (32 ≤ b) × (b ≤ 126)) (sentence k p n a)

-- the same choice and the same answer; of kind 1 whatever the nodes
pub record SameChoiceAndReply (k p n : ℕ) (a : Reply) (k' p' n' : ℕ) (a' : Reply) : Type 0 where
  pub kind : k ≡ k'
  pub position : p ≡ p'
  pub node : ¬ (k ≡ 1) → n ≡ n'
  pub reply : a ≡ a'

-- two have the same sentence exactly where they are the same
unfoldable pub SentencesTellApart : Type 0
unfolding sentence
SentencesTellApart =
    (k p n : ℕ) (a : Reply) (k' p' n' : ℕ) (a' : Reply) → AllBytes k p n a → AllBytes k' p' n' a' →
    (sentence k p n a ≡ sentence k' p' n' a') ↔ SameChoiceAndReply k p n a k' p' n' a'
