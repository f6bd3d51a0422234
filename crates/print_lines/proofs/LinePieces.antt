-- Lines written piece by piece.
-- Assumes nothing.
use Prim.Native.Nat.{ℕ}
use mathlib.Core.Path.{◌≡◌, sym, ap, ◌∙◌}
use mathlib.Core.List.{List, [], ◌∷◌, ◌++◌, append_assoc, append-nil, flatten}
use lib.IntN.{ℤ}
use mir.Syntax.{w16}
use mir.Val.{SFits, to_z, of_z}
use mir.ValLaws.{to_z-of_z}
use Rattle.semantics.specs.Definitions.Run.{net}
use Rattle.semantics.specs.Definitions.Report.{decimal, signed, line, channel_line}
use Rattle.print_decimals.specs.declared.Page.{Page}
use Rattle.print_decimals.specs.Page.{Room, Appended}
use Rattle.print_decimals.proofs.Pages.{first_room, second_room, appended_both}
use Rattle.print_lines.specs.Lines.{words_of, number_line, net_word}

-- ---- a line of numbers: its letter, its words, its end

module _ (p : Page) (letter : ℕ) (ns : List ℕ) (room : Room p (number_line letter ns)) where
  parts : Room p ((letter ∷ []) ++ (words_of ns ++ (10 ∷ [])))
  unfolding number_line line words_of
  parts = room

  pub letter_fits : Room p (letter ∷ [])
  letter_fits = first_room p (letter ∷ []) _ parts

  module _ (q : Page) (x : Appended p (letter ∷ []) q) where
    rest : Room q (words_of ns ++ (10 ∷ []))
    rest = second_room p (letter ∷ []) _ parts q x

    pub words_fit : Room q (words_of ns)
    words_fit = first_room q (words_of ns) _ rest

    module _ (r : Page) (y : Appended q (words_of ns) r) where
      pub newline_fits : Room r (10 ∷ [])
      newline_fits = second_room q (words_of ns) _ rest r y

      pub line_written : (s : Page) → Appended r (10 ∷ []) s → Appended p (number_line letter ns) s
      unfolding number_line line words_of
      line_written s z = appended_both p (letter ∷ []) _ parts q x s (appended_both q (words_of ns) _ rest r y s z)

-- ---- a net behind a space

module _ (p : Page) (f l : ℕ) (room : Room p (net_word f l)) where
  spaced : Room p ((32 ∷ []) ++ signed (net f l))
  unfolding net_word
  spaced = room

  pub space_fits : Room p (32 ∷ [])
  space_fits = first_room p (32 ∷ []) _ spaced

  -- the net is passed on as the number z
  module _ (q : Page) (x : Appended p (32 ∷ []) q) (z : ℤ) (g : SFits w16 z) (e : z ≡ net f l) where
    pub net_fits : Room q (signed (to_z w16 (of_z w16 z)))
    net_fits = rw (to_z-of_z w16 z g, e) (second_room p (32 ∷ []) _ spaced q x)

    pub net_written : (r : Page) → Appended q (signed (to_z w16 (of_z w16 z))) r → Appended p (net_word f l) r
    unfolding net_word
    net_written r y = appended_both p (32 ∷ []) _ spaced q x r (rw (to_z-of_z w16 z g, e) at y)

-- ---- the line of a channel: its letter, two numbers, the net, one number more, its end

four_words : (x a b c d y : List ℕ) → x ≡ (32 ∷ a) ++ (32 ∷ b) → y ≡ 32 ∷ d →
    line 84 (a ∷ b ∷ c ∷ d ∷ []) ≡ (84 ∷ x) ++ ((32 ∷ c) ++ (y ++ (10 ∷ [])))
unfolding line flatten
four_words x a b c d y e g =
    let last = append_assoc c (32 ∷ d) (10 ∷ []) in
    let third = append_assoc b (32 ∷ (c ++ (32 ∷ d))) (10 ∷ []) ∙ ap (λ w. b ++ (32 ∷ w)) last in
    let second = append_assoc a (32 ∷ (b ++ (32 ∷ (c ++ (32 ∷ d))))) (10 ∷ []) ∙ ap (λ w. a ++ (32 ∷ w)) third in
    rw (e, g, append-nil d) (ap (λ w. 84 ∷ 32 ∷ w) (second ∙ sym (append_assoc a (32 ∷ b) _)))

module _ (p : Page) (n f l : ℕ) where
  pieces : channel_line n f l ≡ (84 ∷ []) ++ (words_of (n ∷ f ∷ []) ++ (net_word f l ++ (words_of (l ∷ []) ++ (10 ∷ []))))
  unfolding channel_line line words_of net_word flatten
  pieces =
      four_words _ (decimal n) (decimal f) (signed (net f l)) (decimal l) _ (ap (λ w. (32 ∷ decimal n) ++ w) (append-nil (32 ∷ decimal f))) (append-nil (32 ∷ decimal l))

  module _ (room : Room p (channel_line n f l)) where
    all : Room p ((84 ∷ []) ++ (words_of (n ∷ f ∷ []) ++ (net_word f l ++ (words_of (l ∷ []) ++ (10 ∷ [])))))
    all = rw pieces at room

    pub channel_letter_fits : Room p (84 ∷ [])
    channel_letter_fits = first_room p (84 ∷ []) _ all

    -- the counts are passed on as the numbers a and b
    module _ (q : Page) (x : Appended p (84 ∷ []) q) (a : ℕ) (d : a ≡ f) where
      behind_letter : Room q (words_of (n ∷ f ∷ []) ++ (net_word f l ++ (words_of (l ∷ []) ++ (10 ∷ []))))
      behind_letter = second_room p (84 ∷ []) _ all q x

      pub head_fits : Room q (words_of (n ∷ a ∷ []))
      head_fits = rw d (first_room q (words_of (n ∷ f ∷ [])) _ behind_letter)

      module _ (r : Page) (y : Appended q (words_of (n ∷ a ∷ [])) r) where
        behind_head : Room r (net_word f l ++ (words_of (l ∷ []) ++ (10 ∷ [])))
        behind_head = second_room q (words_of (n ∷ f ∷ [])) _ behind_letter r (rw d at y)

        pub net_word_fits : Room r (net_word f l)
        net_word_fits = first_room r (net_word f l) _ behind_head

        module _ (s : Page) (z : Appended r (net_word f l) s) (b : ℕ) (e : b ≡ l) where
          behind_net : Room s (words_of (l ∷ []) ++ (10 ∷ []))
          behind_net = second_room r (net_word f l) _ behind_head s z

          pub last_fits : Room s (words_of (b ∷ []))
          last_fits = rw e (first_room s (words_of (l ∷ [])) _ behind_net)

          module _ (t : Page) (u : Appended s (words_of (b ∷ [])) t) where
            pub channel_end_fits : Room t (10 ∷ [])
            channel_end_fits = second_room s (words_of (l ∷ [])) _ behind_net t (rw e at u)

            pub channel_written : (v : Page) → Appended t (10 ∷ []) v → Appended p (channel_line n f l) v
            channel_written v w =
                let last = appended_both s (words_of (l ∷ [])) _ behind_net t (rw e at u) v w in
                let more = appended_both r (net_word f l) _ behind_head s z v last in
                rw pieces (appended_both p (84 ∷ []) _ all q x v (appended_both q (words_of (n ∷ f ∷ [])) _ behind_letter r (rw d at y) v more))
