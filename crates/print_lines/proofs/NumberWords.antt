-- Numbers written one behind another.
-- Assumes nothing.
use Prim.Native.Nat.{ℕ, zero, suc, ◌+◌, ◌≤◌, ◌<◌}
use native.Mathlib.Omega.{arith}
use native.Mathlib.Numerals.{add-one}
use mathlib.Core.Path.{◌≡◌, refl, sym, ap, ◌∙◌}
use mathlib.Core.List.{List, [], ◌∷◌, ◌++◌, flatten, append_assoc, append-nil}
use lib.ListN.{length, get_or, take, drop}
use lib.Seq.{take-length}
use Rattle.semantics.specs.Definitions.Report.{decimal}
use Rattle.print_decimals.specs.declared.Page.{Page}
use Rattle.print_decimals.specs.Page.{Room, Appended}
use Rattle.print_decimals.proofs.Pages.{appended_none, first_room, second_room, appended_both}
use Rattle.print_lines.specs.Lines.{words_of}

word_next : (ns : List ℕ) (i : ℕ) → i < length ns → words_of (take (suc i) ns) ≡ words_of (take i ns) ++ (32 ∷ decimal (get_or ns i 0))
unfolding words_of flatten
word_next [] i l = absurd (omega arith)
word_next (n ∷ ns) zero l = append-nil (32 ∷ decimal n)
word_next (n ∷ ns) (suc i) l =
    ap (λ ws. (32 ∷ decimal n) ++ ws) (word_next ns i (omega arith)) ∙ sym (append_assoc (32 ∷ decimal n) (words_of (take i ns)) (32 ∷ decimal (get_or ns i 0)))

words_whole : (ns : List ℕ) (i : ℕ) → words_of ns ≡ words_of (take i ns) ++ words_of (drop i ns)
unfolding words_of flatten
words_whole ns zero = refl
words_whole [] (suc i) = refl
words_whole (n ∷ ns) (suc i) =
    ap (λ ws. (32 ∷ decimal n) ++ ws) (words_whole ns i) ∙ sym (append_assoc (32 ∷ decimal n) (words_of (take i ns)) (words_of (drop i ns)))

-- some of them written, and there is room for all
pub record WordsWritten (p : Page) (ns : List ℕ) (q : Page) (i : ℕ) : Type 0 where
  pub room : Room p (words_of ns)
  pub wrote : Appended p (words_of (take i ns)) q

module _ (p : Page) (ns : List ℕ) where
  pub none_yet : Room p (words_of ns) → WordsWritten p ns p 0
  unfolding words_of flatten
  none_yet r = record { room = r; wrote = appended_none p }

  module _ (q : Page) (i : ℕ) (x : WordsWritten p ns q i) (more : i < length ns) where
    word : List ℕ
    word = 32 ∷ decimal (get_or ns i 0)

    next_fits : Room p (words_of (take i ns) ++ word)
    unfolding word
    next_fits =
        let r = rw (words_whole ns (suc i), word_next ns i more) at x.room in
        first_room p _ (words_of (drop (suc i) ns)) r

    word_fits : Room q word
    word_fits = second_room p (words_of (take i ns)) word next_fits q x.wrote

    pub space_fits : Room q (32 ∷ [])
    unfolding word
    space_fits = first_room q (32 ∷ []) (decimal (get_or ns i 0)) word_fits

    module _ (r : Page) (w : Appended q (32 ∷ []) r) where
      pub number_fits : Room r (decimal (get_or ns i 0))
      unfolding word
      number_fits = second_room q (32 ∷ []) (decimal (get_or ns i 0)) word_fits r w

      pub one_more : (s : Page) → Appended r (decimal (get_or ns i 0)) s → WordsWritten p ns s (i + 1)
      unfolding word
      one_more s y = record {
        room = x.room;
        wrote = rw (add-one i, word_next ns i more)
            (appended_both p (words_of (take i ns)) word next_fits q x.wrote s (appended_both q (32 ∷ []) _ word_fits r w s y));
      }

  pub all_written : (q : Page) (i : ℕ) → WordsWritten p ns q i → length ns ≤ i → i ≤ length ns → Appended p (words_of ns) q
  all_written q i x l m = let e : i ≡ length ns = omega arith in let w = x.wrote in rw (e, take-length ns) at w
