-- A sentence written part by part.
-- Assumes nothing.
use Prim.Native.Nat.{ℕ, ◌+◌, ◌≤◌}
use native.Mathlib.Omega.{arith}
use mathlib.Core.Path.{◌≡◌}
use mathlib.Core.List.{List, ◌++◌}
use lib.ListN.{length}
use borrow.Author.Tests.{eq-eqb, ne_eqb}
use mir.Syntax.{w8}
use mir.Val.{Fits}
use Rattle.std.specs.Prelude.{Option, Some, None, Result, Ok, Err}
use Rattle.semantics.specs.Definitions.Shortage.{short}
use Rattle.semantics.specs.Definitions.Moves.{refused_by}
use Rattle.semantics.specs.Definitions.Report.{decimal}
use Rattle.semantics.specs.Definitions.Sentence.{rule_words, refusal_words, words_for, named, node_named, choice_named, short_named, reply_named}
use Rattle.answers.specs.declared.replies.Short.{Short}
use Rattle.answers.specs.Answers.{shortage_of, reply_told}
use Rattle.print_decimals.specs.declared.Page.{Page}
use Rattle.print_decimals.specs.Page.{HasRoom, Room, Appended, Printed}
use Rattle.print_decimals.proofs.Pages.{appended_none, first_room, second_room, appended_both, room_for, printed_none, printed_room, printed_more}
use Rattle.answers.specs.declared.replies.Moved.{Moved}
use Rattle.print_sentence.specs.Told.{choice_most, short_most, reply_most}
use Rattle.print_sentence.proofs.Lengths.{choice_short, short_short, rule_short, refusal_short}

-- ---- a text and a number behind it

module _ (p : Page) (text : List ℕ) (n : ℕ) (room : Room p (text ++ decimal n)) (q : Page) (x : Appended p text q) (w : ℕ) (e : w ≡ n) where
  pub number_fits : Room q (decimal w)
  number_fits = rw e (second_room p text (decimal n) room q x)

  pub named_written : (r : Page) → Appended q (decimal w) r → Appended p (text ++ decimal n) r
  named_written r y = appended_both p text (decimal n) room q x r (rw e at y)

-- ---- a choice

module _ (p : Page) (k i n : ℕ) (room : HasRoom choice_most p) (fk : Fits w8 k) (fi : Fits w8 i) (fn : Fits w8 n) where
  short_enough : length (choice_named k i n) ≤ choice_most
  short_enough = choice_short k i n (omega (arith, fk.fits)) (omega (arith, fi.fits)) (omega (arith, fn.fits))

  all : Room p (named "Kind " k ++ (named " at station " i ++ node_named k n))
  unfolding choice_named
  all = room_for choice_most p (choice_named k i n) room short_enough

  pub kind_fits : Room p (named "Kind " k)
  kind_fits = first_room p (named "Kind " k) _ all

  module _ (q : Page) (x : Appended p (named "Kind " k) q) where
    behind_kind : Room q (named " at station " i ++ node_named k n)
    behind_kind = second_room p (named "Kind " k) _ all q x

    pub station_fits : Room q (named " at station " i)
    station_fits = first_room q (named " at station " i) _ behind_kind

    module _ (r : Page) (y : Appended q (named " at station " i) r) where
      chosen : (s : Page) → Appended r (node_named k n) s → Printed choice_most p (choice_named k i n) s
      unfolding choice_named
      chosen s z = record {
        wrote = appended_both p (named "Kind " k) _ all q x s (appended_both q (named " at station " i) _ behind_kind r y s z);
        short = short_enough;
      }

      pub without_node : k ≡ 1 → Printed choice_most p (choice_named k i n) r
      unfolding node_named
      without_node e = chosen r (rw (eq-eqb k 1 e) (appended_none r))

      module _ (other : ¬ (k ≡ 1)) where
        node_there : node_named k n ≡ named ", node " n
        unfolding node_named
        node_there = rw (ne_eqb k 1 other)

        pub node_fits : Room r (named ", node " n)
        node_fits = rw node_there at (second_room q (named " at station " i) _ behind_kind r y)

        pub with_node : (s : Page) → Appended r (named ", node " n) s → Printed choice_most p (choice_named k i n) s
        with_node s z = chosen s (rw (← node_there) at z)

-- ---- what was short

module _ (p : Page) (w : Option Short) where
  pub none_written : w ≡ None → Printed short_most p (short_named (shortage_of w)) p
  unfolding short_named shortage_of
  none_written e = rw e (printed_none short_most p)

  module _ (room : HasRoom short_most p) (s : Short) (e : w ≡ Some s) (fa : Fits w8 s.channel) (fk : Fits w8 s.by) where
    few : length (short_named (short s.channel s.by)) ≤ short_most
    few = short_short s.channel s.by (omega (arith, fa.fits)) (omega (arith, fk.fits))

    both : Room p (named ", tray " s.channel ++ named " short by " s.by)
    unfolding short_named
    both = room_for short_most p (short_named (short s.channel s.by)) room few

    pub tray_fits : Room p (named ", tray " s.channel)
    tray_fits = first_room p (named ", tray " s.channel) _ both

    module _ (q : Page) (x : Appended p (named ", tray " s.channel) q) where
      pub by_fits : Room q (named " short by " s.by)
      by_fits = second_room p (named ", tray " s.channel) _ both q x

      pub short_written : (r : Page) → Appended q (named " short by " s.by) r → Printed short_most p (short_named (shortage_of w)) r
      unfolding short_named shortage_of
      short_written r y = rw e (record { wrote = appended_both p (named ", tray " s.channel) _ both q x r y; short = few })

-- ---- what it was answered

module _ (p : Page) (a : Result Moved ℕ) (room : HasRoom reply_most p) where
  module _ (m : Moved) (e : a ≡ Ok m) (f : Fits w8 m.rule) where
    few_of_rule : length (named " moved by rule " m.rule ++ words_for rule_words m.rule) ≤ 38
    few_of_rule = rule_short m.rule (omega (arith, f.fits))

    room_of_rule : HasRoom (38 + short_most) p
    room_of_rule = room

    described : Room p (named " moved by rule " m.rule ++ words_for rule_words m.rule)
    described = let l = few_of_rule in room_for reply_most p _ room (omega arith)

    pub rule_fits : Room p (named " moved by rule " m.rule)
    rule_fits = first_room p (named " moved by rule " m.rule) _ described

    module _ (q : Page) (x : Appended p (named " moved by rule " m.rule) q) (v w : List ℕ) (g : v ≡ w)
        (h : w ≡ words_for rule_words m.rule) where
      pub rule_words_fit : Room q v
      rule_words_fit = rw (g, h) (second_room p (named " moved by rule " m.rule) _ described q x)

      module _ (r : Page) (y : Appended q v r) where
        rule_described : Printed 38 p (named " moved by rule " m.rule ++ words_for rule_words m.rule) r
        rule_described = record {
          wrote = appended_both p (named " moved by rule " m.rule) _ described q x r (rw (g, h) at y);
          short = few_of_rule;
        }

        pub short_fits : HasRoom short_most r
        short_fits = printed_room 38 short_most p _ r room_of_rule rule_described

        pub moved_written : (s : Page) → Printed short_most r (short_named (shortage_of m.short)) s →
            Printed reply_most p (reply_named (reply_told a)) s
        unfolding reply_named
        moved_written s z = rw e (printed_more 38 short_most p _ r room_of_rule rule_described _ s z)

  module _ (n : ℕ) (e : a ≡ Err n) (f : Fits w8 n) where
    few_of_refusal : length (reply_named (refused_by n)) ≤ reply_most
    few_of_refusal = refusal_short n (omega (arith, f.fits))

    refused_all : Room p (named " met refusal " n ++ words_for refusal_words n)
    unfolding reply_named
    refused_all = room_for reply_most p (reply_named (refused_by n)) room few_of_refusal

    pub refusal_fits : Room p (named " met refusal " n)
    refusal_fits = first_room p (named " met refusal " n) _ refused_all

    module _ (q : Page) (x : Appended p (named " met refusal " n) q) (v w : List ℕ) (g : v ≡ w)
        (h : w ≡ words_for refusal_words n) where
      pub refusal_words_fit : Room q v
      refusal_words_fit = rw (g, h) (second_room p (named " met refusal " n) _ refused_all q x)

      pub refused_written : (r : Page) → Appended q v r → Printed reply_most p (reply_named (reply_told a)) r
      unfolding reply_named
      refused_written r y = rw e (record {
        wrote = appended_both p (named " met refusal " n) _ refused_all q x r (rw (g, h) at y);
        short = few_of_refusal;
      })
