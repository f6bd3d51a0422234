-- Worked rows for document 004's "Notation", and for what Tables 2 and 3 are written with. Proved in proofs/Notation.
-- Assumes nothing.
use Rattle.std.specs.Prelude.{◌≡◌, ◌↔◌, [], ◌∷◌}
use Rattle.calculus.specs.Syntax.{rd, wt, State, end, retry, running, or_else', nil, out, par}
use Rattle.calculus.specs.State.{count, same, occurrences, Included, Plus, without, SameNames}
use Rattle.calculus.specs.Log.{RD, WT}
use Rattle.calculus.specs.Reduction.{nodes_of, outputs, AnyOrder, LogOrder}

-- the multiset of one 2 and two 1s, where the names 0, 1 and 2 are counted
abbrev pub few : State
few = 0 ∷ 2 ∷ 1 ∷ []

pub record NotationRows : Type 0 where
  -- RD(δ) and WT(δ)
  pub read : RD (wt 2 ∷ rd 1 ∷ wt 1 ∷ rd 1 ∷ rd 0 ∷ []) ≡ 1 ∷ 1 ∷ 0 ∷ []
  pub written : WT (rd 0 ∷ wt 2 ∷ rd 1 ∷ wt 0 ∷ wt 0 ∷ []) ≡ 2 ∷ 0 ∷ 0 ∷ []
  pub nothing_read : RD [] ≡ []
  pub nothing_written : WT [] ≡ []
  -- how often a name occurs: in a state, where one that is not counted occurs never, and in a list
  pub counted_twice : count few 1 ≡ 2
  pub counted_never : count few 0 ≡ 0
  pub not_counted : count few 3 ≡ 0
  pub same_name : same 2 2 ≡ 1
  pub another_name : same 2 1 ≡ 0
  pub listed_twice : occurrences 1 (1 ∷ 0 ∷ 1 ∷ []) ≡ 2
  pub not_listed : occurrences 2 (1 ∷ 0 ∷ 1 ∷ []) ≡ 0
  -- inclusion counts: a name in it twice must be in the state twice
  pub all_of_it : Included (1 ∷ 2 ∷ 1 ∷ []) few
  pub nothing_in_nothing : Included [] []
  pub once_too_often : ¬ Included (1 ∷ 1 ∷ 1 ∷ []) few
  pub one_of_them_missing : ¬ Included (1 ∷ 0 ∷ []) few
  pub name_not_counted : ¬ Included (3 ∷ []) few
  -- σ ⊎ {a} is one state; there is none where the state does not count the name
  pub one_more : (σ : State) → Plus few 1 σ ↔ (σ ≡ 0 ∷ 3 ∷ 1 ∷ [])
  pub the_first : (σ : State) → Plus few 0 σ ↔ (σ ≡ 1 ∷ 2 ∷ 1 ∷ [])
  pub none_more : (σ : State) → ¬ Plus few 3 σ
  -- and σ is one state for σ ⊎ {a}
  pub one_fewer : (σ : State) → Plus σ 1 few ↔ (σ ≡ 0 ∷ 1 ∷ 1 ∷ [])
  pub none_fewer : (σ : State) → ¬ Plus σ 0 few
  -- σ ∖ σ': an occurrence less for each occurrence there, as far as there are any
  pub less_one_each : without few (1 ∷ 2 ∷ []) ≡ 0 ∷ 1 ∷ 0 ∷ []
  pub less_both : without few (1 ∷ 1 ∷ []) ≡ 0 ∷ 0 ∷ 1 ∷ []
  pub less_nothing : without few [] ≡ few
  pub less_what_is_not_there : without few (0 ∷ 3 ∷ 2 ∷ 2 ∷ []) ≡ 0 ∷ 2 ∷ 0 ∷ []
  -- the same multiset: as often each, in whatever order
  pub another_order : SameNames (1 ∷ 2 ∷ 1 ∷ []) (2 ∷ 1 ∷ 1 ∷ [])
  pub one_missing : ¬ SameNames (1 ∷ 2 ∷ 1 ∷ []) (1 ∷ 2 ∷ [])
  pub other_repeated : ¬ SameNames (1 ∷ 2 ∷ 1 ∷ []) (2 ∷ 1 ∷ 2 ∷ [])
  pub one_too_many : ¬ SameNames [] (1 ∷ [])
  -- the order of ATOK's outputs
  pub any_order : AnyOrder (1 ∷ 2 ∷ []) (2 ∷ 1 ∷ [])
  pub not_any_names : ¬ AnyOrder (1 ∷ 2 ∷ []) (2 ∷ 2 ∷ [])
  pub log_order : LogOrder (1 ∷ 2 ∷ []) (1 ∷ 2 ∷ [])
  pub not_log_order : ¬ LogOrder (1 ∷ 2 ∷ []) (2 ∷ 1 ∷ [])
  -- outputs in parallel, and nodes
  pub three_outputs : outputs (2 ∷ 0 ∷ 0 ∷ []) ≡ par (out 2) (par (out 0) (par (out 0) nil))
  pub no_output : outputs [] ≡ nil
  pub one_node : nodes_of (running end few []) ≡ 1
  pub five_nodes : nodes_of (or_else' (or_else' (running end few []) (running retry few [])) (running end few [])) ≡ 5
