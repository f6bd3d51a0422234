-- The thirteen moves as the scope prints them (document 01, "Choices and moves"), each with its number and with what it
-- tells short (document 02, Q-3), said apart from the executable definitions, and the claim that those accept exactly
-- these moves. Demand 2 forgets term numbers; this says to the number what a move goes on with and what it goes back to.
-- Assumes nothing.
use Rattle.std.specs.Prelude.{ℕ, suc, ◌+◌, ◌≤◌, ◌<◌, ◌≡◌, ◌↔◌, List, [], ◌∷◌, ◌++◌, map, length, set}
use Rattle.calculus.specs.Syntax.{Name, rd, wt, Log, State}
use Rattle.calculus.specs.State.{count, occurrences, Included, without}
use Rattle.calculus.specs.Log.{RD, WT}
use Rattle.calculus.specs.Reduction.{Rule, OUT, IN, REP, ATST, ATRE, ATFAIL, ATOK, ARDOK, ARDF, AWR, AOI, AOF, AOE}
use Rattle.semantics.specs.Definitions.Terms.{Expression, end_t, retry_t, rd_t, wt_t, or_else_t, Program, nil_t, put_t, take_t, repeat_t, par_t, atom_t, Term}
use Rattle.semantics.specs.Definitions.Shortage.{Shortage, enough, short}
use Rattle.semantics.specs.Definitions.Configuration.{Idle, taking, repeating, block, output, Tree, leaf, fork, Component, idle, transaction, Configuration, opens, nodes}
use Rattle.semantics.specs.Definitions.Stored.{WellFormed}
use Rattle.semantics.specs.Definitions.Moves.{Entry, act, inside, does, entry_answer, rule_number}

-- ---- what a process opens into

-- nil into nothing, side by side into what its left side opens into and then what its right side does, and every other
-- process into one station
pub data OpensInto : Program → List Idle → Type 0 where
  nil_opens : {n : ℕ} → OpensInto (nil_t n) []
  put_opens : {n : ℕ} {a : Name} → OpensInto (put_t n a) (output a ∷ [])
  take_opens : {n : ℕ} {a : Name} {P : Program} → OpensInto (take_t n a P) (taking n a P ∷ [])
  repeat_opens : {n : ℕ} {a : Name} {P : Program} → OpensInto (repeat_t n a P) (repeating n a P ∷ [])
  par_opens : {n : ℕ} {P Q : Program} {cs ds : List Idle} → OpensInto P cs → OpensInto Q ds →
      OpensInto (par_t n P Q) (cs ++ ds)
  atom_opens : {n : ℕ} {M : Expression} → OpensInto (atom_t n M) (block n M ∷ [])

-- ---- where a move is made

-- positions count from 0: the component at one gives way to some others, which stand in its place; before and after
pub data GivesWay : (position : ℕ) (old : Component) (new before after : List Component) → Type 0 where
  at_first : {c : Component} {new rest : List Component} → GivesWay 0 c new (c ∷ rest) (new ++ rest)
  further : {p : ℕ} {c d : Component} {new cs ds : List Component} → GivesWay p c new cs ds →
      GivesWay (suc p) c new (d ∷ cs) (d ∷ ds)

-- nodes count from 0 in preorder, each before the sides below it, what is left before what is right: another tree in
-- one's place; before and after
pub data NodeBecomes : (node : ℕ) (old new before after : Tree) → Type 0 where
  at_root : {old new : Tree} → NodeBecomes 0 old new old new
  at_left : {k : ℕ} {old new l l' r : Tree} → NodeBecomes k old new l l' →
      NodeBecomes (suc k) old new (fork l r) (fork l' r)
  at_right : {k : ℕ} {old new l r r' : Tree} → NodeBecomes k old new r r' →
      NodeBecomes (suc (nodes l + k)) old new (fork l r) (fork l r')

-- ---- the moves

-- more of a tray is read than is there, by so many, and no lower tray is short (document 02, Q-3)
pub record LowestShort (bs : List Name) (σ : State) (a k : ℕ) : Type 0 where
  pub lacks : 0 < k
  pub exact : occurrences a bs ≡ count σ a + k
  pub none_lower : (b : Name) → b < a → occurrences b bs ≤ count σ b

-- kind 2, at a node of an attempt with this snapshot: the node, the rule with its number, what is short, what stands
-- there afterwards
pub data NodeMoves (s : State) : (old : Tree) → Rule → (number : ℕ) → Shortage → (new : Tree) → Type 0 where
  -- all that the log reads, this read added, was there at the snapshot: the read is logged
  ardok8 : {n : ℕ} {a : Name} {M : Expression} {δ : Log} → Included (RD (δ ++ (rd a ∷ []))) s →
      NodeMoves s (leaf (rd_t n a M) δ) ARDOK 8 enough (leaf M (δ ++ (rd a ∷ [])))
  -- of some tray too little was there at the snapshot: retry, by byte 255, with the log as it was; the lowest such tray
  -- is told
  ardf9 : {n b k : ℕ} {a : Name} {M : Expression} {δ : Log} → LowestShort (RD (δ ++ (rd a ∷ []))) s b k →
      NodeMoves s (leaf (rd_t n a M) δ) ARDF 9 (short b k) (leaf (retry_t 255) δ)
  -- the write is logged
  awr10 : {n : ℕ} {a : Name} {M : Expression} {δ : Log} →
      NodeMoves s (leaf (wt_t n a M) δ) AWR 10 enough (leaf M (δ ++ (wt a ∷ [])))
  -- a fork of two leaves, each with what is logged until now
  aoi11 : {n : ℕ} {M N : Expression} {δ : Log} →
      NodeMoves s (leaf (or_else_t n M N) δ) AOI 11 enough (fork (leaf M δ) (leaf N δ))
  -- the left side is a retry leaf: the right side remains
  aof12 : {n : ℕ} {δ : Log} {r : Tree} → NodeMoves s (fork (leaf (retry_t n) δ) r) AOF 12 enough r
  -- the left side is an end leaf: it remains
  aoe13 : {n : ℕ} {δ : Log} {r : Tree} → NodeMoves s (fork (leaf (end_t n) δ) r) AOE 13 enough (leaf (end_t n) δ)

-- a choice on a hall, the rule with its number, what is short, and the hall afterwards
pub data MoveAsStated (h : Configuration) : Entry → Rule → (number : ℕ) → Shortage → Configuration → Type 0 where
  -- the tray gains one, up to 255, and the station goes
  out1 : {p : ℕ} {a : Name} {cs : List Component} → GivesWay p (idle (output a)) [] h.components cs →
      count h.counts a < 255 →
      MoveAsStated h (act p) (OUT a) 1 enough
      (record { counts = set h.counts a (suc (count h.counts a)); components = cs })
  -- the tray loses one, which it has, and the continuation opens there; at most 64 stations are left
  in2 : {p n m : ℕ} {a : Name} {P : Program} {ds : List Idle} {cs : List Component} →
      GivesWay p (idle (taking n a P)) (map idle ds) h.components cs → OpensInto P ds →
      count h.counts a ≡ suc m → length cs ≤ 64 →
      MoveAsStated h (act p) (IN a) 2 enough (record { counts = set h.counts a m; components = cs })
  -- the same, and the repeated take is still there, behind what opened
  rep3 : {p n m : ℕ} {a : Name} {P : Program} {ds : List Idle} {cs : List Component} →
      GivesWay p (idle (repeating n a P)) (map idle (ds ++ (repeating n a P ∷ []))) h.components cs →
      OpensInto P ds → count h.counts a ≡ suc m → length cs ≤ 64 →
      MoveAsStated h (act p) (REP a) 3 enough (record { counts = set h.counts a m; components = cs })
  -- an attempt of this very block: one leaf with its expression, nothing logged, the counts as snapshot
  atst4 : {p n : ℕ} {M : Expression} {cs : List Component} →
      GivesWay p (idle (block n M)) (transaction n M h.counts (leaf M []) ∷ []) h.components cs →
      MoveAsStated h (act p) ATST 4 enough (record { counts = h.counts; components = cs })
  -- a single retry leaf: back to waiting, with the block's own number
  atre5 : {p n e : ℕ} {M : Expression} {s : State} {δ : Log} {cs : List Component} →
      GivesWay p (transaction n M s (leaf (retry_t e) δ)) (idle (block n M) ∷ []) h.components cs →
      MoveAsStated h (act p) ATRE 5 enough (record { counts = h.counts; components = cs })
  -- a single end leaf whose log reads more of some tray than is there now: likewise; the lowest such tray is told
  atfail6 : {p n e a k : ℕ} {M : Expression} {s : State} {δ : Log} {cs : List Component} →
      GivesWay p (transaction n M s (leaf (end_t e) δ)) (idle (block n M) ∷ []) h.components cs →
      LowestShort (RD δ) h.counts a k →
      MoveAsStated h (act p) ATFAIL 6 (short a k) (record { counts = h.counts; components = cs })
  -- a single end leaf whose log reads no more than is there now: the counts fall by the reads, and the log's writes
  -- stand, in their order, as putting stations in the attempt's place; at most 64 stations are left
  atok7 : {p n e : ℕ} {M : Expression} {s : State} {δ : Log} {cs : List Component} →
      GivesWay p (transaction n M s (leaf (end_t e) δ)) (map (λ a. idle (output a)) (WT δ)) h.components cs →
      Included (RD δ) h.counts → length cs ≤ 64 →
      MoveAsStated h (act p) (ATOK δ) 7 enough (record { counts = without h.counts (RD δ); components = cs })
  -- 8 to 13: the node changes, and nothing else
  inside8_13 : {p k n m : ℕ} {M : Expression} {s : State} {t u old new : Tree} {r : Rule} {w : Shortage}
      {cs : List Component} →
      GivesWay p (transaction n M s t) (transaction n M s u ∷ []) h.components cs →
      NodeBecomes k old new t u → NodeMoves s old r m w new →
      MoveAsStated h (inside p k) r m w (record { counts = h.counts; components = cs })

-- ---- the claims

-- the definition of what opens is the relation
unfoldable pub OpensAsStated : Type 0
unfolding opens
OpensAsStated = (P : Program) (cs : List Idle) → (opens P ≡ cs) ↔ OpensInto P cs

-- on every well-formed hall, also one that no run reached: a choice is accepted by a rule of this number, told this
-- shortage, with this hall afterwards, exactly where that is a move as printed
unfoldable pub MovesAsStated : Type 0
unfolding entry_answer rule_number
MovesAsStated =
    (ts : List Term) (h : Configuration) → WellFormed ts h →
    (e : Entry) (r : Rule) (n : ℕ) (w : Shortage) (g : Configuration) →
    ((entry_answer h e ≡ does r w g) × (rule_number r ≡ n)) ↔ MoveAsStated h e r n w g

-- ---- each worked out once, to the number

-- terms 0 to 7 of a table: retry; end; rd 1, then 0; wt 1, then 1; 2 orElse 3; the block of 4; put 1; 5 beside 6
unfoldable pub tried : Expression
tried = or_else_t 4 (rd_t 2 1 (retry_t 0)) (wt_t 3 1 (end_t 1))

unfoldable pub both : Program
unfolding tried
both = par_t 7 (atom_t 5 tried) (put_t 6 1)

-- a station alone, one token in tray 0 and none in tray 1: the choice, its rule, what is short, the counts and stations
-- afterwards
unfoldable pub GivesTold : Component → Entry → Rule → Shortage → State → List Component → Type 0
unfolding entry_answer
GivesTold c e r w σ cs =
    entry_answer (record { counts = 1 ∷ 0 ∷ []; components = c ∷ [] }) e ≡
    does r w (record { counts = σ; components = cs })

abbrev pub Gives : Component → Entry → Rule → State → List Component → Type 0
Gives c e r σ cs = GivesTold c e r enough σ cs

-- the same of a node of an attempt that was opened with none in tray 0 and one in tray 1
unfoldable pub GivesInside : Tree → ℕ → Rule → Shortage → Tree → Type 0
unfolding GivesTold tried
GivesInside t k r w u =
    GivesTold (transaction 5 tried (0 ∷ 1 ∷ []) t) (inside 0 k) r w (1 ∷ 0 ∷ [])
    (transaction 5 tried (0 ∷ 1 ∷ []) u ∷ [])

pub record MovesWorked : Type 0 where
  pub OUT_1 : Gives (idle (output 1)) (act 0) (OUT 1) (1 ∷ 1 ∷ []) []
  pub IN_2 : Gives (idle (taking 8 0 both)) (act 0) (IN 0) (0 ∷ 0 ∷ [])
      (idle (block 5 tried) ∷ idle (output 1) ∷ [])
  pub REP_3 : Gives (idle (repeating 9 0 both)) (act 0) (REP 0) (0 ∷ 0 ∷ [])
      (idle (block 5 tried) ∷ idle (output 1) ∷ idle (repeating 9 0 both) ∷ [])
  pub ATST_4 : Gives (idle (block 5 tried)) (act 0) ATST (1 ∷ 0 ∷ [])
      (transaction 5 tried (1 ∷ 0 ∷ []) (leaf tried []) ∷ [])
  pub ATRE_5 : Gives (transaction 5 tried (0 ∷ 1 ∷ []) (leaf (retry_t 0) (rd 1 ∷ []))) (act 0) ATRE (1 ∷ 0 ∷ [])
      (idle (block 5 tried) ∷ [])
  pub ATFAIL_6 : GivesTold (transaction 5 tried (2 ∷ 0 ∷ []) (leaf (end_t 1) (rd 0 ∷ rd 0 ∷ []))) (act 0) ATFAIL
      (short 0 1) (1 ∷ 0 ∷ []) (idle (block 5 tried) ∷ [])
  pub ATOK_7 : Gives (transaction 5 tried (2 ∷ 0 ∷ []) (leaf (end_t 1) (wt 1 ∷ rd 0 ∷ wt 0 ∷ []))) (act 0)
      (ATOK (wt 1 ∷ rd 0 ∷ wt 0 ∷ [])) (0 ∷ 0 ∷ []) (idle (output 1) ∷ idle (output 0) ∷ [])
  pub ARDOK_8 : GivesInside (leaf (rd_t 2 1 (retry_t 0)) (wt 1 ∷ [])) 0 ARDOK enough
      (leaf (retry_t 0) (wt 1 ∷ rd 1 ∷ []))
  pub ARDF_9 : GivesInside (leaf (rd_t 2 1 (retry_t 0)) (rd 1 ∷ [])) 0 ARDF (short 1 1)
      (leaf (retry_t 255) (rd 1 ∷ []))
  pub AWR_10 : GivesInside (leaf (wt_t 3 1 (end_t 1)) (rd 1 ∷ [])) 0 AWR enough (leaf (end_t 1) (rd 1 ∷ wt 1 ∷ []))
  pub AOI_11 : GivesInside (leaf tried (rd 1 ∷ [])) 0 AOI enough
      (fork (leaf (rd_t 2 1 (retry_t 0)) (rd 1 ∷ [])) (leaf (wt_t 3 1 (end_t 1)) (rd 1 ∷ [])))
  pub AOF_12 : GivesInside (fork (leaf tried []) (fork (leaf (retry_t 0) (wt 0 ∷ [])) (leaf (end_t 1) (wt 1 ∷ [])))) 2 AOF
      enough (fork (leaf tried []) (leaf (end_t 1) (wt 1 ∷ [])))
  pub AOE_13 : GivesInside (fork (leaf (end_t 1) (wt 0 ∷ [])) (leaf (end_t 10) (wt 1 ∷ []))) 0 AOE enough
      (leaf (end_t 1) (wt 0 ∷ []))
