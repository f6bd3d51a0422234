-- The reductions of AtCCS: Tables 2 and 3 of document 004, rule by rule under the rules' names.
--
-- Where the print has slips, the text decides: COM leaves the state as it was; ATOK's outputs are those of WT(δ) and
-- its state is σ without RD(δ). COM is printed with the output on the left; here it stands both ways round.
-- A reduction is labelled with the axiom that it rests on, or with COM: PARL, PARR, ATPASS, AOL and AOR pass the label
-- on.
-- Assumes nothing.
use Rattle.calculus.specs.Syntax.{Name, rd, wt, Log, State, Expr, end, retry, prefix, or_else, Ongoing, running, or_else', Process, nil, out, inp, rep, par, atom, ongoing}
use Rattle.calculus.specs.State.{Included, Plus, without, SameNames}
use Rattle.calculus.specs.Log.{RD, WT}
use Rattle.std.specs.Prelude.{ℕ, suc, ◌+◌, ◌≡◌, List, [], ◌∷◌, ◌++◌}

-- the axioms, with the name or log that they act on
pub data Rule : Type 0 where
  OUT IN REP : Name → Rule
  ATST ATRE ATFAIL : Rule
  ATOK : Log → Rule
  ARDOK ARDF AWR AOI AOF AOE : Rule

pub data Label : Type 0 where
  by : Rule → Label
  COM : Name → Label

-- Table 3
pub data Evolves : Rule → Ongoing → Ongoing → Type 0 where
  ardok : {a : Name} {M : Expr} {σ : State} {δ : Log} → Included (RD (δ ++ (rd a ∷ []))) σ →
      Evolves ARDOK (running (prefix (rd a) M) σ δ) (running M σ (δ ++ (rd a ∷ [])))
  ardf : {a : Name} {M : Expr} {σ : State} {δ : Log} → ¬ Included (RD (δ ++ (rd a ∷ []))) σ →
      Evolves ARDF (running (prefix (rd a) M) σ δ) (running retry σ δ)
  awr : {a : Name} {M : Expr} {σ : State} {δ : Log} →
      Evolves AWR (running (prefix (wt a) M) σ δ) (running M σ (δ ++ (wt a ∷ [])))
  aoi : {M N : Expr} {σ : State} {δ : Log} →
      Evolves AOI (running (or_else M N) σ δ) (or_else' (running M σ δ) (running N σ δ))
  aof : {σ : State} {δ : Log} {B : Ongoing} → Evolves AOF (or_else' (running retry σ δ) B) B
  aoe : {σ : State} {δ : Log} {B : Ongoing} → Evolves AOE (or_else' (running end σ δ) B) (running end σ δ)
  aol : {r : Rule} {A A' B : Ongoing} → Evolves r A A' → Evolves r (or_else' A B) (or_else' A' B)
  aor : {r : Rule} {A B B' : Ongoing} → Evolves r B B' → Evolves r (or_else' A B) (or_else' A B')

-- the nodes of an ongoing expression
unfoldable pub nodes_of : Ongoing → ℕ
nodes_of (running M σ δ) = 1
nodes_of (or_else' A B) = suc (nodes_of A + nodes_of B)

-- the node at which a reduction of Table 3 has its axiom. Nodes are counted in preorder: 0 is the whole expression,
-- then come those of its left side, then those of its right side
unfoldable pub node_of : {r : Rule} {A A' : Ongoing} → Evolves r A A' → ℕ
unfolding nodes_of
node_of (ardok i) = 0
node_of (ardf i) = 0
node_of awr = 0
node_of aoi = 0
node_of aof = 0
node_of aoe = 0
node_of (aol d) = suc (node_of d)
node_of (aor {A = A} d) = suc (nodes_of A + node_of d)

-- a reduction of Table 3 at this node
abbrev pub EvolvesAt : ℕ → Rule → Ongoing → Ongoing → Type 0
EvolvesAt k r A A' = (d : Evolves r A A') × (node_of d ≡ k)

-- outputs on these names in parallel. The nil behind the last of them makes no difference: what a hall stands for is
-- taken up to nil and grouping.
unfoldable pub outputs : List Name → Process
outputs [] = nil
outputs (b ∷ bs) = par (out b) (outputs bs)

-- The order in which ATOK lays its outputs down: any order, as printed, or that of the log.
abbrev pub AnyOrder : List Name → List Name → Type 0
AnyOrder ws bs = SameNames ws bs

abbrev pub LogOrder : List Name → List Name → Type 0
LogOrder ws bs = ws ≡ bs

-- Table 2
pub data Reduces (Order : List Name → List Name → Type 0) : Label → Process → State → Process → State → Type 0 where
  OUTr : {a : Name} {σ σ' : State} → Plus σ a σ' → Reduces Order (by (OUT a)) (out a) σ nil σ'
  INr : {a : Name} {P : Process} {σ σ' : State} → Plus σ' a σ → Reduces Order (by (IN a)) (inp a P) σ P σ'
  REPr : {a : Name} {P : Process} {σ σ' : State} → Plus σ' a σ →
      Reduces Order (by (REP a)) (rep a P) σ (par P (rep a P)) σ'
  COMl : {l k : Label} {a : Name} {P P' Q Q' : Process} {σ σ' : State} →
      Plus σ a σ' → Reduces Order l P σ P' σ' → Reduces Order k Q σ' Q' σ →
      Reduces Order (COM a) (par P Q) σ (par P' Q') σ
  COMr : {l k : Label} {a : Name} {P P' Q Q' : Process} {σ σ' : State} →
      Plus σ a σ' → Reduces Order l Q σ Q' σ' → Reduces Order k P σ' P' σ →
      Reduces Order (COM a) (par P Q) σ (par P' Q') σ
  PARL : {l : Label} {P P' Q : Process} {σ σ' : State} →
      Reduces Order l P σ P' σ' → Reduces Order l (par P Q) σ (par P' Q) σ'
  PARR : {l : Label} {P Q Q' : Process} {σ σ' : State} →
      Reduces Order l Q σ Q' σ' → Reduces Order l (par P Q) σ (par P Q') σ'
  ATSTr : {M : Expr} {σ : State} → Reduces Order (by ATST) (atom M) σ (ongoing (running M σ []) M) σ
  ATPASS : {r : Rule} {A A' : Ongoing} {M : Expr} {σ : State} → Evolves r A A' →
      Reduces Order (by r) (ongoing A M) σ (ongoing A' M) σ
  ATREr : {M : Expr} {σ σ' : State} {δ : Log} → Reduces Order (by ATRE) (ongoing (running retry σ' δ) M) σ (atom M) σ
  ATFAILr : {M : Expr} {σ σ' : State} {δ : Log} → ¬ Included (RD δ) σ →
      Reduces Order (by ATFAIL) (ongoing (running end σ' δ) M) σ (atom M) σ
  ATOKr : {M : Expr} {σ σ' : State} {δ : Log} {bs : List Name} → Included (RD δ) σ → Order (WT δ) bs →
      Reduces Order (by (ATOK δ)) (ongoing (running end σ' δ) M) σ (outputs bs) (without σ (RD δ))
