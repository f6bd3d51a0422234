-- One choice on a hall (document 01, "Choices and moves" and refusals 14 to 20). A choice is an entry of a schedule.
--
-- The answers on the way, from a node out to the caller, with their words for yes and for no:
--
--   type             what is asked                yes, and with it                           no, and with it
--   NodeAnswer       one node of a transaction    evolves: rule, shortage, tree              no_rule, out_of_range
--   ComponentAnswer  one component                moves: rule, shortage, counts, components  blocked: 15 to 18 or 20
--   EntryAnswer      an entry on a configuration  does: rule, shortage, configuration        refuses: 14 to 20
--   Transition       the same, for a run          moved: rule, configuration                 refused: 14 to 20
--   Reply            the same, in numbers         moved_by: the rule's number, shortage       refused_by: 14 to 20
--
-- Of a node `inside_answer` makes no_rule 17 and out_of_range 16. A step's reply may have 1 to 12 too (Checks/Steps.stepReply).
-- Assumes nothing.
use Rattle.std.specs.Prelude.{ℕ, zero, suc, ◌-◌, Bool, true, false, cond, List, [], ◌∷◌, ◌++◌, map, length, leb, ltb, eqb}
use Rattle.std.proofs.Math.Option.{Option, none, some, Option-elim}
use Rattle.std.proofs.Math.ListN.{get_elem?}
use Rattle.calculus.specs.Syntax.{Name, rd, wt, Log, State}
use Rattle.calculus.specs.State.{count, without}
use Rattle.calculus.specs.Log.{RD, WT}
use Rattle.calculus.specs.Reduction.{Rule, OUT, IN, REP, ATST, ATRE, ATFAIL, ATOK, ARDOK, ARDF, AWR, AOI, AOF, AOE}
use Rattle.semantics.specs.Definitions.Layout.{max_count, max_components, no_record}
use Rattle.semantics.specs.Definitions.Basics.{replace_at}
use Rattle.semantics.specs.Definitions.Terms.{Expression, end_t, retry_t, rd_t, wt_t, or_else_t}
use Rattle.semantics.specs.Definitions.Shortage.{Shortage, enough}
use Rattle.semantics.specs.Definitions.Logs.{empty_log, shortage, readable, add_token, take_token}
use Rattle.semantics.specs.Definitions.Configuration.{Idle, taking, repeating, block, output, Tree, leaf, fork, Component, idle, transaction, Configuration, nodes, preorder, opens}

-- kind 1, act, at a position; kind 2, inside, a move inside the transaction at a position, at a node
pub data Entry : Type 0 where
  act : (position : ℕ) → Entry
  inside : (position node : ℕ) → Entry

-- ---- a move of one component, which gives way to others

-- beside its rule a move tells what was short, where a commit or a read failed; all others tell enough (document 02, Q-3)
pub data ComponentAnswer : Type 0 where
  moves : Rule → Shortage → State → List Component → ComponentAnswer
  blocked : ℕ → ComponentAnswer

-- refusal 18: nothing is there to take
unfoldable pub takes : State → Name → Rule → List Idle → ComponentAnswer
unfolding take_token
takes σ a r cs = cond (eqb (count σ a) 0) (blocked 18) (moves r enough (take_token σ a) (map idle cs))

-- refusal 20: the channel is full
unfoldable pub puts : State → Name → ComponentAnswer
unfolding add_token
puts σ a = cond (leb max_count (count σ a)) (blocked 20) (moves (OUT a) enough (add_token σ a) [])

-- at a single end leaf: ATOK where the log is readable at the present counts, else ATFAIL, with what is short of them.
-- Each write becomes an output.
unfoldable pub commits : State → ℕ → Expression → Log → ComponentAnswer
unfolding readable shortage without RD WT
commits σ n M δ =
    cond (readable σ δ) (moves (ATOK δ) enough (without σ (RD δ)) (map (λ a. idle (output a)) (WT δ)))
    (moves ATFAIL (shortage σ δ) σ (idle (block n M) ∷ []))

-- kind 1 at a transaction's nodes; refusal 15 while it has more to do than one end or retry leaf
unfoldable pub ends : State → ℕ → Expression → Tree → ComponentAnswer
unfolding commits
ends σ n M (leaf (end_t e) δ) = commits σ n M δ
ends σ n M (leaf (retry_t e) δ) = moves ATRE enough σ (idle (block n M) ∷ [])
ends σ n M (leaf (rd_t e a N) δ) = blocked 15
ends σ n M (leaf (wt_t e a N) δ) = blocked 15
ends σ n M (leaf (or_else_t e N N') δ) = blocked 15
ends σ n M (fork l r) = blocked 15

-- kind 1 at a component
unfoldable pub acts : State → Component → ComponentAnswer
unfolding takes puts ends opens empty_log
acts σ (idle (taking n a P)) = takes σ a (IN a) (opens P)
acts σ (idle (repeating n a P)) = takes σ a (REP a) (opens P ++ (repeating n a P ∷ []))
acts σ (idle (block n M)) = moves ATST enough σ (transaction n M σ (leaf M empty_log) ∷ [])
acts σ (idle (output a)) = puts σ a
acts σ (transaction n M s t) = ends σ n M t

-- ---- a move inside a transaction, at a node counted in preorder

pub data NodeAnswer : Type 0 where
  evolves : Rule → Shortage → Tree → NodeAnswer
  no_rule : NodeAnswer
  out_of_range : NodeAnswer

-- ARDOK where the log with this read is readable at the snapshot, else ARDF, with what is short of it
unfoldable pub reads : State → Name → Expression → Log → NodeAnswer
unfolding readable shortage
reads s a M δ =
    cond (readable s (δ ++ (rd a ∷ []))) (evolves ARDOK enough (leaf M (δ ++ (rd a ∷ []))))
    (evolves ARDF (shortage s (δ ++ (rd a ∷ []))) (leaf (retry_t no_record) δ))

unfoldable pub at_leaf : State → Expression → Log → NodeAnswer
unfolding reads
at_leaf s (end_t n) δ = no_rule
at_leaf s (retry_t n) δ = no_rule
at_leaf s (rd_t n a M) δ = reads s a M δ
at_leaf s (wt_t n a M) δ = evolves AWR enough (leaf M (δ ++ (wt a ∷ [])))
at_leaf s (or_else_t n M N) δ = evolves AOI enough (fork (leaf M δ) (leaf N δ))

-- a fork is settled by its left side alone: AOF drops a left side that is a retry leaf, AOE keeps one that is an end leaf
unfoldable pub at_fork : Tree → Tree → NodeAnswer
at_fork (leaf (end_t n) δ) r = evolves AOE enough (leaf (end_t n) δ)
at_fork (leaf (retry_t n) δ) r = evolves AOF enough r
at_fork (leaf (rd_t n a M) δ) r = no_rule
at_fork (leaf (wt_t n a M) δ) r = no_rule
at_fork (leaf (or_else_t n M N) δ) r = no_rule
at_fork (fork l m) r = no_rule

-- a node's own move
unfoldable pub at_node : State → Tree → NodeAnswer
unfolding at_leaf at_fork
at_node s (leaf M δ) = at_leaf s M δ
at_node s (fork l r) = at_fork l r

-- a tree with another in the place of its node k; a leaf is its only node
unfoldable pub put_back : Tree → ℕ → Tree → Tree
unfolding nodes
put_back (leaf M δ) k u = u
put_back (fork l r) zero u = u
put_back (fork l r) (suc k) u = cond (ltb k (nodes l)) (fork (put_back l k u) r) (fork l (put_back r (k - nodes l) u))

unfoldable pub put_back_move : Tree → ℕ → NodeAnswer → NodeAnswer
unfolding put_back
put_back_move t k (evolves e w u) = evolves e w (put_back t k u)
put_back_move t k no_rule = no_rule
put_back_move t k out_of_range = out_of_range

-- node k in preorder, if there is one, makes its move, and what it becomes is put back in its place
unfoldable pub move_at : State → Tree → ℕ → NodeAnswer
unfolding at_node put_back_move preorder Option-elim
move_at s t k = Option-elim (get_elem? (preorder t) k) out_of_range (λ u. put_back_move t k (at_node s u))

-- refusal 16 past the last node; refusal 17 where the node has nothing to do
unfoldable pub inside_answer : State → ℕ → Expression → State → NodeAnswer → ComponentAnswer
inside_answer σ n M s (evolves r w t) = moves r w σ (transaction n M s t ∷ [])
inside_answer σ n M s no_rule = blocked 17
inside_answer σ n M s out_of_range = blocked 16

-- kind 2 at a component; refusal 15 where no transaction is open
unfoldable pub acts_inside : State → Component → ℕ → ComponentAnswer
unfolding move_at inside_answer
acts_inside σ (idle c) k = blocked 15
acts_inside σ (transaction n M s t) k = inside_answer σ n M s (move_at s t k)

-- ---- at a position

-- the answer to an entry: a rule, the shortage told, and the configuration after it, or a refusal
pub data EntryAnswer : Type 0 where
  does : Rule → Shortage → Configuration → EntryAnswer
  refuses : ℕ → EntryAnswer

-- refusal 19: too many components afterwards
unfoldable pub apply_at : ℕ → ComponentAnswer → Configuration → EntryAnswer
unfolding replace_at
apply_at p (blocked n) h = refuses n
apply_at p (moves r w σ cs) h =
    let after = replace_at p cs h.components in
    cond (leb (length after) max_components) (does r w (record { counts = σ; components = after })) (refuses 19)

-- refusal 14: the position lies past the last component
unfoldable pub at_position : Option Component → (Component → EntryAnswer) → EntryAnswer
at_position none k = refuses 14
at_position (some c) k = k c

unfoldable pub entry_answer : Configuration → Entry → EntryAnswer
unfolding at_position apply_at acts acts_inside
entry_answer h (act p) = at_position (get_elem? h.components p) (λ c. apply_at p (acts h.counts c) h)
entry_answer h (inside p k) = at_position (get_elem? h.components p) (λ c. apply_at p (acts_inside h.counts c k) h)

-- the transition: the same without what was short. Runs go by it
pub data Transition : Type 0 where
  moved : Rule → Configuration → Transition
  refused : ℕ → Transition

unfoldable pub transition_of : EntryAnswer → Transition
transition_of (does r w h) = moved r h
transition_of (refuses n) = refused n

unfoldable pub transition : Configuration → Entry → Transition
unfolding transition_of entry_answer
transition h e = transition_of (entry_answer h e)

unfoldable pub is_moved : Transition → Bool
is_moved (moved r h) = true
is_moved (refused n) = false

unfoldable pub is_accepted : Configuration → Entry → Bool
unfolding is_moved transition
is_accepted h e = is_moved (transition h e)

-- ---- the rules

-- what a rule does to the counts, beside its number in document 01: the tokens that it adds and those that it takes
pub record Effect : Type 0 where
  pub number : ℕ
  pub added : List Name
  pub taken : List Name

unfoldable pub effect_of : Rule → Effect
unfolding RD
effect_of (OUT a) = record { number = 1; added = a ∷ []; taken = [] }
effect_of (IN a) = record { number = 2; added = []; taken = a ∷ [] }
effect_of (REP a) = record { number = 3; added = []; taken = a ∷ [] }
effect_of ATST = record { number = 4; added = []; taken = [] }
effect_of ATRE = record { number = 5; added = []; taken = [] }
effect_of ATFAIL = record { number = 6; added = []; taken = [] }
effect_of (ATOK δ) = record { number = 7; added = []; taken = RD δ }
effect_of ARDOK = record { number = 8; added = []; taken = [] }
effect_of ARDF = record { number = 9; added = []; taken = [] }
effect_of AWR = record { number = 10; added = []; taken = [] }
effect_of AOI = record { number = 11; added = []; taken = [] }
effect_of AOF = record { number = 12; added = []; taken = [] }
effect_of AOE = record { number = 13; added = []; taken = [] }

unfoldable pub rule_number : Rule → ℕ
unfolding effect_of
rule_number r = (effect_of r).number

-- what a choice answers, for each case with its number; a rule with what was short
pub data Reply : Type 0 where
  moved_by : (rule : ℕ) (shortage : Shortage) → Reply
  refused_by : (number : ℕ) → Reply

unfoldable pub as_reply : EntryAnswer → Reply
unfolding rule_number
as_reply (does r w h) = moved_by (rule_number r) w
as_reply (refuses n) = refused_by n
