-- The numbered conditions (document 01, "Reasons to turn a request down"), each said apart from the executable
-- definitions, and the claim that the definitions refuse with a number exactly where its condition is the first that
-- holds, at the place that the paper names, and accept exactly where none holds.
-- Assumes nothing.
use Rattle.std.specs.Prelude.{ℕ, suc, ◌+◌, ◌≤◌, ◌<◌, ◌≡◌, true, ◌⊎◌, ◌↔◌, ◌≢◌, List, [], ◌∷◌, ◌++◌, map, length, take, drop, set, replicate}
use Rattle.std.proofs.Math.Option.{some}
use Rattle.std.proofs.Math.ListN.{get_elem?}
use Rattle.calculus.specs.Syntax.{Name, Log, State}
use Rattle.calculus.specs.State.{count, Included}
use Rattle.calculus.specs.Log.{RD, WT}
use Rattle.semantics.specs.Definitions.Basics.{replace_at, Bytes}
use Rattle.semantics.specs.Definitions.Terms.{Expression, end_t, retry_t, rd_t, wt_t, or_else_t, Program, nil_t, put_t, take_t, repeat_t, par_t, atom_t, Term, process, expression, width, branches, path_length}
use Rattle.semantics.specs.Definitions.Table.{Kind, kind_by_number, Field, channel_f, program_f, expression_f, amount_f, fields, TableSoFar, Content, term_record, tokens_record, start_record, record_content, Table, accepted, refused_at, read_table}
use Rattle.semantics.specs.Definitions.Configuration.{Idle, taking, repeating, output, Tree, leaf, fork, idle, transaction, Configuration, opens, opening, nodes, preorder}
use Rattle.semantics.specs.Definitions.Stored.{WellFormed, bytes_of}
use Rattle.semantics.specs.Definitions.Moves.{Entry, act, inside, refused, transition, is_accepted}
use Rattle.semantics.specs.Definitions.Run.{Counters, RunAnswer, run, schedule, entries, schedule_bytes}
use Rattle.semantics.specs.Definitions.Calls.{Verdict, ok, rejected, check_table, admitted, not_admitted, admission, check_hall, opened, not_opened, Opening, open_hall, Buffers, run_call}
use Rattle.semantics.specs.Claims.ConverseRuns.{EmptyChannel, TooManyComponents, FullChannel}
use Rattle.semantics.specs.Claims.InnerMoves.{Settled}
use Rattle.semantics.specs.Claims.Correspondence.{AcceptsTable}

-- a condition holds at its number, and none of a smaller number does
abbrev pub FirstCondition : (ℕ → Type 0) → ℕ → Type 0
FirstCondition C n = C n × ((m : ℕ) → m < n → C m → ⊥)

-- ---- the table of kinds as document 01 prints it

-- each kind with what the bytes of its body are: a tray (channel_f), a reference to a process or to an expression, a
-- count of tokens (amount_f)
unfoldable pub stated_bodies : List (ℕ × List Field)
stated_bodies =
    -- nil, put, take, repeated take
    (1, []) ∷ (2, channel_f ∷ []) ∷ (3, channel_f ∷ program_f ∷ []) ∷ (4, channel_f ∷ program_f ∷ []) ∷
    -- side by side, atom
    (5, program_f ∷ program_f ∷ []) ∷ (6, expression_f ∷ []) ∷
    -- end, retry, rd, wt, orElse
    (7, []) ∷ (8, []) ∷ (9, channel_f ∷ expression_f ∷ []) ∷ (10, channel_f ∷ expression_f ∷ []) ∷
    (11, expression_f ∷ expression_f ∷ []) ∷
    -- tokens, start
    (12, channel_f ∷ amount_f ∷ []) ∷ (13, program_f ∷ []) ∷ []

-- kind k has this body
abbrev pub Body : ℕ → List Field → Type 0
Body k fs = (i : ℕ) × (get_elem? stated_bodies i ≡ some (k, fs))

-- behind the kind k follow these bytes, and b is one that its body has as an F
abbrev pub BodyByte : ℕ → List ℕ → Field → ℕ → Type 0
BodyByte k bs F b = (fs : List Field) × Body k fs × (i : ℕ) × (get_elem? fs i ≡ some F) × (get_elem? bs i ≡ some b)

-- These bytes begin with a record after the terms ts: how many bytes it has, and what it says. References are to
-- processes and expressions of ts.
pub data RecordAsStated (ts : List Term) : List ℕ → ℕ → Content → Type 0 where
  nil1 : {bs : List ℕ} → RecordAsStated ts (1 ∷ bs) 1 (term_record (process (nil_t (length ts))))
  put2 : {a : ℕ} {bs : List ℕ} → RecordAsStated ts (2 ∷ a ∷ bs) 2 (term_record (process (put_t (length ts) a)))
  take3 : {a r : ℕ} {bs : List ℕ} {P : Program} → get_elem? ts r ≡ some (process P) →
      RecordAsStated ts (3 ∷ a ∷ r ∷ bs) 3 (term_record (process (take_t (length ts) a P)))
  repeat4 : {a r : ℕ} {bs : List ℕ} {P : Program} → get_elem? ts r ≡ some (process P) →
      RecordAsStated ts (4 ∷ a ∷ r ∷ bs) 3 (term_record (process (repeat_t (length ts) a P)))
  par5 : {l r : ℕ} {bs : List ℕ} {P Q : Program} → get_elem? ts l ≡ some (process P) → get_elem? ts r ≡ some (process Q) →
      RecordAsStated ts (5 ∷ l ∷ r ∷ bs) 3 (term_record (process (par_t (length ts) P Q)))
  atom6 : {r : ℕ} {bs : List ℕ} {M : Expression} → get_elem? ts r ≡ some (expression M) →
      RecordAsStated ts (6 ∷ r ∷ bs) 2 (term_record (process (atom_t (length ts) M)))
  end7 : {bs : List ℕ} → RecordAsStated ts (7 ∷ bs) 1 (term_record (expression (end_t (length ts))))
  retry8 : {bs : List ℕ} → RecordAsStated ts (8 ∷ bs) 1 (term_record (expression (retry_t (length ts))))
  rd9 : {a r : ℕ} {bs : List ℕ} {M : Expression} → get_elem? ts r ≡ some (expression M) →
      RecordAsStated ts (9 ∷ a ∷ r ∷ bs) 3 (term_record (expression (rd_t (length ts) a M)))
  wt10 : {a r : ℕ} {bs : List ℕ} {M : Expression} → get_elem? ts r ≡ some (expression M) →
      RecordAsStated ts (10 ∷ a ∷ r ∷ bs) 3 (term_record (expression (wt_t (length ts) a M)))
  or_else11 : {l r : ℕ} {bs : List ℕ} {M N : Expression} → get_elem? ts l ≡ some (expression M) →
      get_elem? ts r ≡ some (expression N) →
      RecordAsStated ts (11 ∷ l ∷ r ∷ bs) 3 (term_record (expression (or_else_t (length ts) M N)))
  tokens12 : {a n : ℕ} {bs : List ℕ} → RecordAsStated ts (12 ∷ a ∷ n ∷ bs) 3 (tokens_record a n)
  start13 : {r : ℕ} {bs : List ℕ} {P : Program} → get_elem? ts r ≡ some (process P) →
      RecordAsStated ts (13 ∷ r ∷ bs) 2 (start_record P)

-- the definitions read a record as it is printed
unfoldable pub ReadAsStated : Type 0
unfolding record_content kind_by_number fields
ReadAsStated =
    (ts : List Term) (k : ℕ) (bs : List ℕ) (w : ℕ) (c : Content) → RecordAsStated ts (k ∷ bs) w c →
    (K : Kind) × (kind_by_number k ≡ some K) × (suc (length (fields K)) ≡ w) × (record_content ts bs K ≡ c)

-- ---- 1 to 9: a table

-- A condition of the record that begins with these bytes, after a reading; the second number is where the place lies,
-- counted from the record's first byte. No byte left means that the table ends here.
pub data TableCondition (r : TableSoFar) : (number offset : ℕ) → List ℕ → Type 0 where
  -- 1: a byte that begins no record
  kind_unknown : {k : ℕ} {bs : List ℕ} → (k ≡ 0) ⊎ (13 < k) → TableCondition r 1 0 (k ∷ bs)
  -- 2: fewer bytes are left than the kind's body has
  body_short : {k : ℕ} {bs : List ℕ} (fs : List Field) → Body k fs → length bs < length fs →
      TableCondition r 2 0 (k ∷ bs)
  -- 3: one term more than a table may have
  terms_many : {k : ℕ} {bs : List ℕ} → 1 ≤ k → k ≤ 11 → 200 ≤ length r.terms → TableCondition r 3 0 (k ∷ bs)
  -- 4: a channel that no hall has
  channel_over : {k : ℕ} {bs : List ℕ} (b : ℕ) → BodyByte k bs channel_f b → 15 < b → TableCondition r 4 0 (k ∷ bs)
  -- 5: a reference to a term that has not come yet
  forward_reference_holds : {k : ℕ} {bs : List ℕ} (b : ℕ) → BodyByte k bs program_f b ⊎ BodyByte k bs expression_f b →
      length r.terms ≤ b → TableCondition r 5 0 (k ∷ bs)
  -- 6: an expression where a process belongs, or a process where an expression does
  class_expression : {k : ℕ} {bs : List ℕ} (b : ℕ) (M : Expression) → BodyByte k bs program_f b →
      get_elem? r.terms b ≡ some (expression M) → TableCondition r 6 0 (k ∷ bs)
  class_process : {k : ℕ} {bs : List ℕ} (b : ℕ) (P : Program) → BodyByte k bs expression_f b →
      get_elem? r.terms b ≡ some (process P) → TableCondition r 6 0 (k ∷ bs)
  -- 7: a term past one of the three limits
  width_over : {k w : ℕ} {bs : List ℕ} {P : Program} → RecordAsStated r.terms (k ∷ bs) w (term_record (process P)) →
      64 < width P → TableCondition r 7 0 (k ∷ bs)
  paths_over : {k w : ℕ} {bs : List ℕ} {M : Expression} → RecordAsStated r.terms (k ∷ bs) w (term_record (expression M)) →
      (8 < branches M) ⊎ (16 < path_length M) → TableCondition r 7 0 (k ∷ bs)
  -- 8: tokens of no count, or given to a channel for the second time
  tokens_none : {a : ℕ} {bs : List ℕ} → TableCondition r 8 0 (12 ∷ a ∷ 0 ∷ bs)
  tokens_again : {a n : ℕ} {bs : List ℕ} → count r.tokens a ≢ 0 → TableCondition r 8 0 (12 ∷ a ∷ n ∷ bs)
  -- 9: something stands behind the start record, and that is the place; or there is none, and the place is where the
  -- bytes end
  byte_follows : {b c : ℕ} {bs : List ℕ} → TableCondition r 9 2 (13 ∷ b ∷ c ∷ bs)
  start_missing : TableCondition r 9 0 []

-- no condition holds of the record
abbrev pub NoCondition : TableSoFar → List ℕ → Type 0
NoCondition r bs = (n offset : ℕ) → TableCondition r n offset bs → ⊥

-- the places at which a record of the table begins, with what the records before it gave: they are terms and tokens as
-- printed, and none of them meets a condition
pub data Reached (bs : List ℕ) : ℕ → TableSoFar → Type 0 where
  at_first : Reached bs 0 (record { terms = []; tokens = replicate 16 0 })
  after_term : {p w : ℕ} {r : TableSoFar} {t : Term} → Reached bs p r → NoCondition r (drop p bs) →
      RecordAsStated r.terms (drop p bs) w (term_record t) →
      Reached bs (p + w) (record { terms = r.terms ++ (t ∷ []); tokens = r.tokens })
  after_tokens : {p w : ℕ} {r : TableSoFar} {a n : ℕ} → Reached bs p r → NoCondition r (drop p bs) →
      RecordAsStated r.terms (drop p bs) w (tokens_record a n) →
      Reached bs (p + w) (record { terms = r.terms; tokens = set r.tokens a n })

-- refused at the first record where a condition holds, with the first condition that does
unfoldable pub TableRefused : List ℕ → (number place : ℕ) → Type 0
TableRefused bs n q =
    (p : ℕ) × (r : TableSoFar) × (offset : ℕ) × Reached bs p r × TableCondition r n offset (drop p bs) ×
    ((m o : ℕ) → m < n → TableCondition r m o (drop p bs) → ⊥) × (q ≡ p + offset)

-- where a table ends without a start record the place is its length
unfoldable pub MissingAtLength : Type 0
MissingAtLength = (bs : List ℕ) (p : ℕ) (r : TableSoFar) → Reached bs p r → drop p bs ≡ [] → p ≡ length bs

-- accepted where the records end with a start record, on a process, and nothing follows it
unfoldable pub TableAccepted : List ℕ → Table → Type 0
TableAccepted bs t =
    (p : ℕ) × (r : TableSoFar) × (b : ℕ) × (P : Program) × Reached bs p r × (drop p bs ≡ 13 ∷ b ∷ []) ×
    (get_elem? r.terms b ≡ some (process P)) × (t ≡ record { terms = r.terms; tokens = r.tokens; start = P })

-- refused exactly so, and accepted exactly so: a table is accepted where it is a sequence of records as printed, none
-- of which meets a condition, closed by a start record at the end, and nowhere else
unfoldable pub TableNumbers : Type 0
unfolding TableRefused TableAccepted
TableNumbers =
    (bs : List ℕ) → ((n q : ℕ) → (read_table bs ≡ refused_at n q) ↔ TableRefused bs n q) ×
    ((t : Table) → (read_table bs ≡ accepted t) ↔ TableAccepted bs t)

-- ---- 10 and 11: a hall

-- why opening a hall is refused, which looks at the table and at the length alone
pub data OpenCondition (table hall : List ℕ) : (number place : ℕ) → Type 0 where
  -- 1 to 9: by its table
  by_table : {n p : ℕ} → TableRefused table n p → OpenCondition table hall n p
  -- 10: a hall of another length
  size_mismatch : (t : Table) → TableAccepted table t → length hall ≢ 11344 → OpenCondition table hall 10 0

-- why every other call on a hall is turned down
pub data HallCondition (table hall : List ℕ) : (number place : ℕ) → Type 0 where
  -- 1 to 10
  as_opening : {n p : ℕ} → OpenCondition table hall n p → HallCondition table hall n p
  -- 11: bytes that are no well-formed hall's
  not_well_formed : (t : Table) → TableAccepted table t → length hall ≡ 11344 →
      (((h : Configuration) × WellFormed t.terms h × (bytes_of h ≡ hall)) → ⊥) → HallCondition table hall 11 0

-- the table is accepted as t, and the hall is the bytes of h, well formed for it
abbrev pub HallAccepted : (table hall : List ℕ) → Table → Configuration → Type 0
HallAccepted table hall t h = TableAccepted table t × WellFormed t.terms h × (bytes_of h ≡ hall)

-- what every call on a hall tests first
unfoldable pub HallNumbers : Type 0
HallNumbers =
    (table hall : List ℕ) → Bytes table → Bytes hall →
    ((n p : ℕ) → (admission table hall ≡ not_admitted n p) ↔ HallCondition table hall n p) ×
    ((t : Table) (h : Configuration) → (admission table hall ≡ admitted t h) ↔ HallAccepted table hall t h)

-- ---- the checks

abbrev pub TableChecked : List ℕ → Verdict → Type 0
TableChecked bs ok = (t : Table) × TableAccepted bs t
TableChecked bs (rejected n p) = TableRefused bs n p

abbrev pub HallChecked : (table hall : List ℕ) → Verdict → Type 0
HallChecked table hall ok = (t : Table) × (h : Configuration) × HallAccepted table hall t h
HallChecked table hall (rejected n p) = HallCondition table hall n p

-- each verdict exactly where its condition holds
unfoldable pub CheckNumbers : Type 0
CheckNumbers =
    ((bs : List ℕ) (v : Verdict) → (check_table bs ≡ v) ↔ TableChecked bs v) ×
    ((table hall : List ℕ) → Bytes hall → (v : Verdict) → (check_hall table hall ≡ v) ↔ HallChecked table hall v)

-- ---- opening

-- an opening's answer, and every byte of the lent hall afterwards: refused, they stay; else they are those of the
-- opened configuration, and the answer has the fresh tally
pub data OpenAnswered (table hall : List ℕ) : Opening → Type 0 where
  not_opened_holds : {n p : ℕ} → OpenCondition table hall n p →
      OpenAnswered table hall (record { answer = not_opened n p; hall = hall })
  is_opened : (t : Table) → TableAccepted table t → length hall ≡ 11344 →
      OpenAnswered table hall
      (record { answer = opened (record { commits = 0; failed = 0; retries = 0 }); hall = bytes_of (opening t) })

unfoldable pub OpenNumbers : Type 0
OpenNumbers = (table hall : List ℕ) (o : Opening) → (open_hall table hall ≡ o) ↔ OpenAnswered table hall o

-- ---- number 0

-- the numbers with which each call refuses; 0 is none of them (what a told 0 means: Checks/Answers)
unfoldable pub RefusalNumbers : Type 0
RefusalNumbers =
    (table hall : List ℕ) (n p : ℕ) →
    (check_table table ≡ rejected n p → (1 ≤ n) × (n ≤ 9)) ×
    ((open_hall table hall).answer ≡ not_opened n p → (1 ≤ n) × (n ≤ 10)) ×
    (check_hall table hall ≡ rejected n p → (1 ≤ n) × (n ≤ 11)) ×
    (admission table hall ≡ not_admitted n p → (1 ≤ n) × (n ≤ 11))

-- ---- 12 to 20: a choice

-- a leaf that is settled (end or retry), or a fork whose left side is not
abbrev pub NoRuleAtNode : Tree → Type 0
NoRuleAtNode (leaf M δ) = Settled (leaf M δ)
NoRuleAtNode (fork l r) = ¬ Settled l

-- a condition of a choice on a configuration
pub data ChoiceCondition (h : Configuration) : ℕ → Entry → Type 0 where
  -- 14: past the last component
  no_station : {p : ℕ} → length h.components ≤ p → ChoiceCondition h 14 (act p)
  no_station_inside : {p k : ℕ} → length h.components ≤ p → ChoiceCondition h 14 (inside p k)
  -- 15: kind 1 at a transaction that has moves inside it left, kind 2 where no transaction is open
  unsettled : {p : ℕ} (n : ℕ) (M : Expression) (s : State) (t : Tree) →
      get_elem? h.components p ≡ some (transaction n M s t) → ¬ Settled t →
      ChoiceCondition h 15 (act p)
  no_attempt : {p k : ℕ} (c : Idle) → get_elem? h.components p ≡ some (idle c) → ChoiceCondition h 15 (inside p k)
  -- 16: past the last node
  no_node : {p k : ℕ} (n : ℕ) (M : Expression) (s : State) (t : Tree) →
      get_elem? h.components p ≡ some (transaction n M s t) → nodes t ≤ k →
      ChoiceCondition h 16 (inside p k)
  -- 17: a node that has nothing to do
  no_rule_there : {p k : ℕ} (n : ℕ) (M : Expression) (s : State) (t u : Tree) →
      get_elem? h.components p ≡ some (transaction n M s t) →
      get_elem? (preorder t) k ≡ some u → NoRuleAtNode u → ChoiceCondition h 17 (inside p k)
  -- 18: nothing is there to take
  in_empty : {p : ℕ} (n : ℕ) (a : Name) (P : Program) → get_elem? h.components p ≡ some (idle (taking n a P)) →
      EmptyChannel h.counts a →
      ChoiceCondition h 18 (act p)
  rep_empty : {p : ℕ} (n : ℕ) (a : Name) (P : Program) → get_elem? h.components p ≡ some (idle (repeating n a P)) →
      EmptyChannel h.counts a →
      ChoiceCondition h 18 (act p)
  -- 19: too many components afterwards, which an IN, a REP or an ATOK can bring about
  in_many : {p : ℕ} (n : ℕ) (a : Name) (P : Program) → get_elem? h.components p ≡ some (idle (taking n a P)) →
      TooManyComponents (length (replace_at p (map idle (opens P)) h.components)) → ChoiceCondition h 19 (act p)
  rep_many : {p : ℕ} (n : ℕ) (a : Name) (P : Program) → get_elem? h.components p ≡ some (idle (repeating n a P)) →
      TooManyComponents (length (replace_at p (map idle (opens P ++ (repeating n a P ∷ []))) h.components)) →
      ChoiceCondition h 19 (act p)
  commit_many : {p : ℕ} (n : ℕ) (M : Expression) (s : State) (e : ℕ) (δ : Log) →
      get_elem? h.components p ≡ some (transaction n M s (leaf (end_t e) δ)) → Included (RD δ) h.counts →
      TooManyComponents (length (replace_at p (map (λ a. idle (output a)) (WT δ)) h.components)) → ChoiceCondition h 19 (act p)
  -- 20: no room for another token
  out_full : {p : ℕ} (a : Name) → get_elem? h.components p ≡ some (idle (output a)) → FullChannel h.counts a →
      ChoiceCondition h 20 (act p)

unfoldable pub ChoiceNumbers : Type 0
unfolding is_accepted
ChoiceNumbers =
    (ts : List Term) (h : Configuration) → WellFormed ts h → (e : Entry) →
    ((n : ℕ) → (transition h e ≡ refused n) ↔ FirstCondition (λ m. ChoiceCondition h m e) n) ×
    ((is_accepted h e ≡ true) ↔ ((n : ℕ) → ChoiceCondition h n e → ⊥))

-- why a run stops with this number, before these bytes, at this configuration: 0 at the end, 12 at a byte that is
-- no choice's kind, 13 where the choice is cut short, else the choice's first condition
pub data Stops (h : Configuration) : ℕ → List ℕ → Type 0 where
  at_end_holds : Stops h 0 []
  kind_neither : {k : ℕ} {bs : List ℕ} → k ≢ 1 → k ≢ 2 → Stops h 12 (k ∷ bs)
  act_short : Stops h 13 (1 ∷ [])
  inside_short : Stops h 13 (2 ∷ [])
  node_short : {p : ℕ} → Stops h 13 (2 ∷ p ∷ [])
  act_refused : {n p : ℕ} {bs : List ℕ} → FirstCondition (λ m. ChoiceCondition h m (act p)) n → Stops h n (1 ∷ p ∷ bs)
  inside_refused : {n p k : ℕ} {bs : List ℕ} → FirstCondition (λ m. ChoiceCondition h m (inside p k)) n →
      Stops h n (2 ∷ p ∷ k ∷ bs)

-- of a run's answer: its place is the first byte behind the choices done, which are as many as done says; it stops
-- there for the reason that its number gives
pub record RunStops (bs : List ℕ) (a : RunAnswer) : Type 0 where
  pub inside_bytes : a.place ≤ length bs
  pub before : take a.place bs ≡ schedule_bytes (take a.done (entries (schedule bs)))
  pub as_many : a.done ≤ length (entries (schedule bs))
  pub reason : Stops a.configuration a.number (drop a.place bs)

unfoldable pub RunNumbers : Type 0
RunNumbers =
    (table : List ℕ) (t : Table) → AcceptsTable table t → (h : Configuration) → WellFormed t.terms h →
    (c : Counters) (bs : List ℕ) →
    RunStops bs (run h c bs)

-- and there is never a second reason
unfoldable pub OneReason : Type 0
OneReason = (h : Configuration) (bs : List ℕ) (m n : ℕ) → Stops h m bs → Stops h n bs → m ≡ n

-- ---- a run as a call

-- turned down 1 to 11: the number and the place of the condition, nothing done, hall and tally untouched; else number,
-- place and choices done are those of the run on the hall that the bytes store, which stops for its reason, and the
-- bytes and the tally afterwards are what that run leaves
unfoldable pub RunCallNumbers : Type 0
RunCallNumbers =
    (table : List ℕ) (l : Buffers) (bs : List ℕ) → Bytes table → Bytes l.hall →
    ((n p : ℕ) → HallCondition table l.hall n p →
    run_call table l bs ≡ record { number = n; place = p; done = 0; buffers = l }) ×
    ((t : Table) (h : Configuration) → HallAccepted table l.hall t h →
    let a = run h l.counters bs in
    RunStops bs a ×
    (run_call table l bs ≡ record {
      number = a.number;
      place = a.place;
      done = a.done;
      buffers = record { hall = bytes_of a.configuration; counters = a.counters };
    }))

-- its number is 0 exactly where table and hall are accepted and its place is the end of the choices
unfoldable pub RunCallZero : Type 0
RunCallZero =
    (table : List ℕ) (l : Buffers) (bs : List ℕ) → Bytes table → Bytes l.hall →
    ((run_call table l bs).number ≡ 0) ↔
    ((t : Table) × (h : Configuration) × HallAccepted table l.hall t h ×
    ((run h l.counters bs).place ≡ length bs))
