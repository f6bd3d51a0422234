-- The rows on Table 2 are instances of the laws of Outcomes.
-- Assumes nothing.
use Prim.Native.Nat.{ℕ, ◌<◌}
use native.Mathlib.Omega.{arith}
use mathlib.Core.Path.{◌≡◌, refl}
use mathlib.Core.Logic.{◌↔◌}
use mathlib.Core.List.Memᴰ
use mathlib.Core.List.{List, [], ◌∷◌, Memᴰ}
use Rattle.calculus.specs.Syntax.{Name, rd, wt, State, Log, end, retry, prefix, or_else, running, or_else', nil, out, inp, rep, par, atom, ongoing}
use Rattle.calculus.specs.State.{count, same, occurrences, Included, Plus, without}
use Rattle.calculus.specs.Log.{RD, WT}
use Rattle.calculus.specs.Reduction.{OUT, IN, REP, ATFAIL, ATOK, ARDOK, ARDF, AWR, AOI, AOF, AOE, by, COM, outputs, nodes_of, AnyOrder, LogOrder, OUTr, INr, REPr, COMl, COMr, PARL, PARR}
use Rattle.calculus.specs.Checks.Notation.{few}
use Rattle.calculus.specs.Checks.Table3.{step}
use Rattle.calculus.specs.Checks.Table2.{leaves, Outcomes, began, tried, attempt, puts, takes, Table2Rows}
use Rattle.calculus.proofs.States.{included_nil, included_cons}
use Rattle.calculus.proofs.Steps.{read_there, read_missing, write_steps, or_else_steps, end_steps, retry_steps, in_right, fork_steps}
use Rattle.calculus.proofs.Outcomes.{told, nil_done, out_counted, out_not_counted, in_there, in_missing, rep_there, rep_missing, begins, passes, retries, fails, commits, par_outcomes, still_hands, other_hands, one_handed, not_handed, not_counted_hands, none_made, behind_nil, before_nil, log_orders, no_orders, single_order, two_orders, three_orders}

-- no output's label
not_IN : (b a : Name) → by (OUT a) ≡ by (IN b) → ⊥
not_IN b a e = let z : ◌≡◌ {A = ℕ} 0 1 = cc in omega arith

not_REP : (b a : Name) → by (OUT a) ≡ by (REP b) → ⊥
not_REP b a e = let z : ◌≡◌ {A = ℕ} 0 1 = cc in omega arith

not_ATFAIL : (a : Name) → by (OUT a) ≡ by ATFAIL → ⊥
not_ATFAIL a e = let z : ◌≡◌ {A = ℕ} 0 1 = cc in omega arith

-- `few` with one name more
abbrev more : State
more = 1 ∷ 2 ∷ 1 ∷ []

plus : Plus few 0 more
plus = record { counted = omega arith; added = refl }

plus_1 : Plus few 1 (0 ∷ 3 ∷ 1 ∷ [])
plus_1 = record { counted = omega arith; added = refl }

plus_2 : Plus (0 ∷ 2 ∷ 0 ∷ []) 2 few
plus_2 = record { counted = omega arith; added = refl }

putting_in : (Order : List Name → List Name → Type 0) → Outcomes Order puts few (leaves (by (OUT 0)) nil more ∷ [])
putting_in Order = out_counted Order few 0 (omega arith)

abbrev putting : Outcomes AnyOrder puts few (leaves (by (OUT 0)) nil more ∷ [])
putting = putting_in AnyOrder

taking : Outcomes AnyOrder takes more (leaves (by (IN 0)) (out 2) few ∷ [])
taking = in_there AnyOrder more 0 (out 2) plus

nothing_taken : Outcomes AnyOrder takes few []
nothing_taken = in_missing AnyOrder few 0 (out 2) refl

in_1 : Outcomes AnyOrder (inp 1 (out 0)) few (leaves (by (IN 1)) (out 0) (0 ∷ 1 ∷ 1 ∷ []) ∷ [])
in_1 = in_there AnyOrder few 1 (out 0) (record { counted = omega arith; added = refl })

left_and_right : Outcomes
    AnyOrder (par (inp 1 (out 0)) (out 2)) few
    (leaves (by (IN 1)) (par (out 0) (out 2)) (0 ∷ 1 ∷ 1 ∷ [])
    ∷ leaves (by (OUT 2)) (par (inp 1 (out 0)) nil) (0 ∷ 2 ∷ 2 ∷ []) ∷ [])
left_and_right =
    let puts_2 = out_counted AnyOrder few 2 (omega arith) in
    par_outcomes
    AnyOrder (inp 1 (out 0)) (out 2) few
    (leaves (by (IN 1)) (out 0) (0 ∷ 1 ∷ 1 ∷ []) ∷ []) (leaves (by (OUT 2)) nil (0 ∷ 2 ∷ 2 ∷ []) ∷ []) []
    in_1 puts_2 (none_made AnyOrder (par (inp 1 (out 0)) (out 2)) few)
    (other_hands AnyOrder par (inp 1 (out 0)) (out 2) few (by (IN 1)) (out 0) (0 ∷ 1 ∷ 1 ∷ []) [] in_1 (not_IN 1))
    (not_handed
    AnyOrder (λ Q P. par P Q) (out 2) (inp 1 (out 0)) few 2 nil (0 ∷ 2 ∷ 2 ∷ []) puts_2
    (by (IN 1)) (out 0) (0 ∷ 1 ∷ 2 ∷ []) []
    (in_there AnyOrder (0 ∷ 2 ∷ 2 ∷ []) 1 (out 0) (record { counted = omega arith; added = refl }))
    (λ e. let z : ◌≡◌ {A = ℕ} 2 1 = cc in omega arith))

com_left : Outcomes
    AnyOrder (par puts takes) few
    (leaves (by (OUT 0)) (par nil takes) more ∷ leaves (COM 0) (par nil (out 2)) few ∷ [])
com_left =
    par_outcomes
    AnyOrder puts takes few (leaves (by (OUT 0)) nil more ∷ []) [] (leaves (COM 0) (par nil (out 2)) few ∷ [])
    putting nothing_taken
    (λ o m. told
    AnyOrder (par puts takes) few o (leaves (COM 0) (par nil (out 2)) few) (COMl plus (OUTr plus) (INr plus))
    (Memᴰ.eq_of_singleton m))
    (one_handed AnyOrder par puts takes few 0 nil more putting (by (IN 0)) (out 2) taking)
    (still_hands AnyOrder (λ Q P. par P Q) takes puts few (leaves (COM 0) (par nil (out 2)) few ∷ []) nothing_taken)

com_right : Outcomes
    AnyOrder (par takes puts) few
    (leaves (by (OUT 0)) (par takes nil) more ∷ leaves (COM 0) (par (out 2) nil) few ∷ [])
com_right =
    par_outcomes
    AnyOrder takes puts few [] (leaves (by (OUT 0)) nil more ∷ []) (leaves (COM 0) (par (out 2) nil) few ∷ [])
    nothing_taken putting
    (λ o m. told
    AnyOrder (par takes puts) few o (leaves (COM 0) (par (out 2) nil) few) (COMr plus (OUTr plus) (INr plus))
    (Memᴰ.eq_of_singleton m))
    (still_hands AnyOrder par takes puts few (leaves (COM 0) (par (out 2) nil) few ∷ []) nothing_taken)
    (one_handed AnyOrder (λ Q P. par P Q) puts takes few 0 nil more putting (by (IN 0)) (out 2) taking)

com_rep : Outcomes
    AnyOrder (par (out 1) (rep 1 nil)) few
    (leaves (by (OUT 1)) (par nil (rep 1 nil)) (0 ∷ 3 ∷ 1 ∷ [])
    ∷ leaves (by (REP 1)) (par (out 1) (par nil (rep 1 nil))) (0 ∷ 1 ∷ 1 ∷ [])
    ∷ leaves (COM 1) (par nil (par nil (rep 1 nil))) few ∷ [])
com_rep =
    let puts_1 = out_counted AnyOrder few 1 (omega arith) in
    let takes_1 = rep_there AnyOrder few 1 nil (record { counted = omega arith; added = refl }) in
    par_outcomes
    AnyOrder (out 1) (rep 1 nil) few
    (leaves (by (OUT 1)) nil (0 ∷ 3 ∷ 1 ∷ []) ∷ []) (leaves (by (REP 1)) (par nil (rep 1 nil)) (0 ∷ 1 ∷ 1 ∷ []) ∷ [])
    (leaves (COM 1) (par nil (par nil (rep 1 nil))) few ∷ [])
    puts_1 takes_1
    (λ o m. told
    AnyOrder (par (out 1) (rep 1 nil)) few o (leaves (COM 1) (par nil (par nil (rep 1 nil))) few)
    (COMl plus_1 (OUTr plus_1) (REPr plus_1)) (Memᴰ.eq_of_singleton m))
    (one_handed
    AnyOrder par (out 1) (rep 1 nil) few 1 nil (0 ∷ 3 ∷ 1 ∷ []) puts_1
    (by (REP 1)) (par nil (rep 1 nil)) (rep_there AnyOrder (0 ∷ 3 ∷ 1 ∷ []) 1 nil plus_1))
    (other_hands
    AnyOrder (λ Q P. par P Q) (rep 1 nil) (out 1) few (by (REP 1)) (par nil (rep 1 nil)) (0 ∷ 1 ∷ 1 ∷ [])
    (leaves (COM 1) (par nil (par nil (rep 1 nil))) few ∷ []) takes_1 (not_REP 1))

-- reads that are there, and reads that are not: of a 0, of a 2 twice, of a name that is not counted
reads_0 : Included (0 ∷ []) more
reads_0 = included_cons 0 [] more (omega arith) (included_nil few)

reads_1_and_0 : Included (1 ∷ 0 ∷ []) more
reads_1_and_0 =
    included_cons 1 (0 ∷ []) more (omega arith)
    (included_cons 0 [] (1 ∷ 1 ∷ 1 ∷ []) (omega arith) (included_nil (0 ∷ 1 ∷ 1 ∷ [])))

reads_1 : Included (1 ∷ []) few
reads_1 = included_cons 1 [] few (omega arith) (included_nil (0 ∷ 1 ∷ 1 ∷ []))

reads_all : Included (1 ∷ 2 ∷ 1 ∷ []) few
reads_all =
    included_cons 1 (2 ∷ 1 ∷ []) few (omega arith)
    (included_cons 2 (1 ∷ []) (0 ∷ 1 ∷ 1 ∷ []) (omega arith)
    (included_cons 1 [] (0 ∷ 1 ∷ 0 ∷ []) (omega arith) (included_nil (0 ∷ 0 ∷ 0 ∷ []))))

reads_began : Included (0 ∷ 0 ∷ []) began
reads_began =
    included_cons 0 (0 ∷ []) began (omega arith) (included_cons 0 [] (1 ∷ 0 ∷ 0 ∷ []) (omega arith) (included_nil (0 ∷ 0 ∷ 0 ∷ [])))

missing : (a : Name) (bs : List Name) (σ : State) → count σ a < occurrences a bs → ¬ Included bs σ
unfolding Included
missing a bs σ h i = let z = i a in omega arith

fails_at_holds : (δ : Log) (a : Name) → count few a < occurrences a (RD δ) →
    Outcomes AnyOrder (attempt end δ) few (leaves (by ATFAIL) (atom tried) few ∷ [])
fails_at_holds δ a h = fails AnyOrder began δ tried few (missing a (RD δ) few h)

-- an output on 0 beside a commit that reads a 0 alone, whose outputs have one order
com_atok : (Order : List Name → List Name → Type 0) (δ : Log) (bs : List Name) → RD δ ≡ 0 ∷ [] →
    ((cs : List Name) → Order (WT δ) cs ↔ Memᴰ cs (bs ∷ [])) → Outcomes
    Order (par puts (attempt end δ)) few
    (leaves (by (OUT 0)) (par nil (attempt end δ)) more
    ∷ leaves (by ATFAIL) (par puts (atom tried)) few
    ∷ leaves (COM 0) (par nil (outputs bs)) few ∷ [])
unfolding without occurrences same
com_atok Order δ bs reads orders = par_outcomes
    Order puts (attempt end δ) few
    (leaves (by (OUT 0)) nil more ∷ []) (leaves (by ATFAIL) (atom tried) few ∷ []) (leaves (COM 0) (par nil (outputs bs)) few ∷ [])
    (putting_in Order) failing
    (λ o m. told
    Order (par puts (attempt end δ)) few o (leaves (COM 0) (par nil (outputs bs)) few)
    (COMl plus (OUTr plus) ((committing (by (ATOK δ)) (outputs bs) few).1 (Memᴰ.head refl))) (Memᴰ.eq_of_singleton m))
    (one_handed Order par puts (attempt end δ) few 0 nil more (putting_in Order) (by (ATOK δ)) (outputs bs) committing)
    (other_hands
    Order (λ Q P. par P Q) (attempt end δ) puts few (by ATFAIL) (atom tried) few (leaves (COM 0) (par nil (outputs bs)) few ∷ [])
    failing not_ATFAIL)
  where
    failing : Outcomes Order (attempt end δ) few (leaves (by ATFAIL) (atom tried) few ∷ [])
    failing = fails Order began δ tried few (rw reads (missing 0 (0 ∷ []) few (omega arith)))

    back : without more (RD δ) ≡ few
    back = rw reads

    committing : Outcomes Order (attempt end δ) more (leaves (by (ATOK δ)) (outputs bs) few ∷ [])
    committing = rw back at (commits Order began δ tried more (bs ∷ []) (rw reads reads_0) orders)

no_com_of_two_reads : Outcomes
    AnyOrder (par puts (attempt end (rd 1 ∷ rd 0 ∷ []))) few
    (leaves (by (OUT 0)) (par nil (attempt end (rd 1 ∷ rd 0 ∷ []))) more
    ∷ leaves (by ATFAIL) (par puts (atom tried)) few ∷ [])
unfolding RD WT without outputs occurrences same
no_com_of_two_reads =
    let tries = attempt end (rd 1 ∷ rd 0 ∷ []) in
    let failing = fails_at_holds (rd 1 ∷ rd 0 ∷ []) 0 (omega arith) in
    let committing : Outcomes AnyOrder tries more (leaves (by (ATOK (rd 1 ∷ rd 0 ∷ []))) nil (0 ∷ 1 ∷ 1 ∷ []) ∷ []) =
    commits AnyOrder began (rd 1 ∷ rd 0 ∷ []) tried more ([] ∷ []) reads_1_and_0 no_orders in
    par_outcomes
    AnyOrder puts tries few (leaves (by (OUT 0)) nil more ∷ []) (leaves (by ATFAIL) (atom tried) few ∷ []) []
    putting failing (none_made AnyOrder (par puts tries) few)
    (not_handed
    AnyOrder par puts tries few 0 nil more putting (by (ATOK (rd 1 ∷ rd 0 ∷ []))) nil (0 ∷ 1 ∷ 1 ∷ []) [] committing
    (λ e. let z : ◌≡◌ {A = ℕ} 2 1 = cc in omega arith))
    (other_hands AnyOrder (λ Q P. par P Q) tries puts few (by ATFAIL) (atom tried) few [] failing not_ATFAIL)

no_com_of_two_names : Outcomes
    AnyOrder (par puts (inp 2 nil)) few
    (leaves (by (OUT 0)) (par nil (inp 2 nil)) more ∷ leaves (by (IN 2)) (par puts nil) (0 ∷ 2 ∷ 0 ∷ []) ∷ [])
no_com_of_two_names =
    let takes_2 = in_there AnyOrder few 2 nil plus_2 in
    par_outcomes
    AnyOrder puts (inp 2 nil) few
    (leaves (by (OUT 0)) nil more ∷ []) (leaves (by (IN 2)) nil (0 ∷ 2 ∷ 0 ∷ []) ∷ []) []
    putting takes_2 (none_made AnyOrder (par puts (inp 2 nil)) few)
    (not_handed
    AnyOrder par puts (inp 2 nil) few 0 nil more putting (by (IN 2)) nil (1 ∷ 2 ∷ 0 ∷ []) []
    (in_there AnyOrder more 2 nil (record { counted = omega arith; added = refl }))
    (λ e. let z : ◌≡◌ {A = ℕ} 0 1 = cc in omega arith))
    (other_hands AnyOrder (λ Q P. par P Q) (inp 2 nil) puts few (by (IN 2)) nil (0 ∷ 2 ∷ 0 ∷ []) [] takes_2 (not_IN 2))

no_com_of_outputs : Outcomes
    AnyOrder (par puts puts) few
    (leaves (by (OUT 0)) (par nil puts) more ∷ leaves (by (OUT 0)) (par puts nil) more ∷ [])
no_com_of_outputs =
    let again = out_counted AnyOrder more 0 (omega arith) in
    let differs : few ≡ 2 ∷ 2 ∷ 1 ∷ [] → ⊥ = λ e. let z : ◌≡◌ {A = ℕ} 0 2 = cc in omega arith in
    par_outcomes
    AnyOrder puts puts few (leaves (by (OUT 0)) nil more ∷ []) (leaves (by (OUT 0)) nil more ∷ []) []
    putting putting (none_made AnyOrder (par puts puts) few)
    (not_handed AnyOrder par puts puts few 0 nil more putting (by (OUT 0)) nil (2 ∷ 2 ∷ 1 ∷ []) [] again differs)
    (not_handed AnyOrder (λ Q P. par P Q) puts puts few 0 nil more putting (by (OUT 0)) nil (2 ∷ 2 ∷ 1 ∷ []) [] again differs)

no_com_of_inputs : Outcomes AnyOrder (par takes takes) few []
no_com_of_inputs =
    par_outcomes
    AnyOrder takes takes few [] [] [] nothing_taken nothing_taken (none_made AnyOrder (par takes takes) few)
    (still_hands AnyOrder par takes takes few [] nothing_taken) (still_hands AnyOrder (λ Q P. par P Q) takes takes few [] nothing_taken)

no_com_not_counted : Outcomes AnyOrder (par (out 3) (inp 3 nil)) few []
no_com_not_counted =
    let unput = out_not_counted AnyOrder few 3 (omega arith) in
    let untaken = in_missing AnyOrder few 3 nil refl in
    par_outcomes
    AnyOrder (out 3) (inp 3 nil) few [] [] [] unput untaken (none_made AnyOrder (par (out 3) (inp 3 nil)) few)
    (still_hands AnyOrder par (out 3) (inp 3 nil) few [] unput)
    (still_hands AnyOrder (λ Q P. par P Q) (inp 3 nil) (out 3) few [] untaken)

com_deep : Outcomes
    AnyOrder (par (par nil puts) (par takes nil)) few
    (leaves (by (OUT 0)) (par (par nil nil) (par takes nil)) more
    ∷ leaves (COM 0) (par (par nil nil) (par (out 2) nil)) few ∷ [])
com_deep =
    let left = behind_nil AnyOrder puts few (leaves (by (OUT 0)) nil more ∷ []) putting in
    let right = before_nil AnyOrder takes few [] nothing_taken in
    let then = before_nil AnyOrder takes more (leaves (by (IN 0)) (out 2) few ∷ []) taking in
    let handed = leaves (COM 0) (par (par nil nil) (par (out 2) nil)) few in
    par_outcomes
    AnyOrder (par nil puts) (par takes nil) few (leaves (by (OUT 0)) (par nil nil) more ∷ []) [] (handed ∷ [])
    left right
    (λ o m. told
    AnyOrder (par (par nil puts) (par takes nil)) few o handed (COMl plus (PARR (OUTr plus)) (PARL (INr plus)))
    (Memᴰ.eq_of_singleton m))
    (one_handed AnyOrder par (par nil puts) (par takes nil) few 0 (par nil nil) more left (by (IN 0)) (par (out 2) nil) then)
    (still_hands AnyOrder (λ Q P. par P Q) (par takes nil) (par nil puts) few (handed ∷ []) right)

com_beside : Outcomes
    AnyOrder (par (inp 3 nil) (par puts takes)) few
    (leaves (by (OUT 0)) (par (inp 3 nil) (par nil takes)) more
    ∷ leaves (COM 0) (par (inp 3 nil) (par nil (out 2))) few ∷ [])
com_beside =
    let untaken = in_missing AnyOrder few 3 nil refl in
    let pair = leaves (by (OUT 0)) (par nil takes) more ∷ leaves (COM 0) (par nil (out 2)) few ∷ [] in
    par_outcomes
    AnyOrder (inp 3 nil) (par puts takes) few [] pair [] untaken com_left (none_made AnyOrder (par (inp 3 nil) (par puts takes)) few)
    (still_hands AnyOrder par (inp 3 nil) (par puts takes) few [] untaken)
    (not_counted_hands AnyOrder (λ Q P. par P Q) (par puts takes) (inp 3 nil) few 3 nil pair [] refl (omega arith) com_left)

pub table2_rows : Table2Rows
unfolding RD WT without outputs occurrences same in_right nodes_of
table2_rows = record {
  nil_is_done = nil_done AnyOrder few;
  OUT_one_more = out_counted AnyOrder few 1 (omega arith);
  OUT_the_first = putting;
  OUT_not_counted = out_not_counted AnyOrder few 3 (omega arith);
  IN_one_of_two = in_1;
  IN_of_none = in_missing AnyOrder few 0 nil refl;
  IN_not_counted = in_missing AnyOrder few 3 nil refl;
  REP_the_last = rep_there AnyOrder few 2 (out 0) plus_2;
  REP_of_none = rep_missing AnyOrder few 0 nil refl;
  REP_not_counted = rep_missing AnyOrder few 3 nil refl;
  PARL_PARR = left_and_right;
  COM_left = com_left;
  COM_right = com_right;
  COM_REP = com_rep;
  COM_ATOK = com_atok AnyOrder (wt 1 ∷ rd 0 ∷ []) (1 ∷ []) refl (single_order 1);
  no_COM_of_two_reads = no_com_of_two_reads;
  no_COM_of_two_names = no_com_of_two_names;
  no_COM_of_outputs = no_com_of_outputs;
  no_COM_of_inputs = no_com_of_inputs;
  no_COM_not_counted = no_com_not_counted;
  COM_deep = com_deep;
  COM_beside = com_beside;
  ATST_begins = begins AnyOrder few tried;
  ATPASS_ARDOK = passes
      AnyOrder (running (prefix (rd 0) end) began (rd 0 ∷ [])) tried few
      (step 0 ARDOK (running end began (rd 0 ∷ rd 0 ∷ [])) ∷ []) tt (read_there began (rd 0 ∷ []) 0 end reads_began);
  ATPASS_ARDF = passes
      AnyOrder (running (prefix (rd 1) end) began []) tried few (step 0 ARDF (running retry began []) ∷ []) tt
      (read_missing began [] 1 end (missing 1 (1 ∷ []) began (omega arith)));
  ATPASS_sides = passes
      AnyOrder (or_else' (running end began []) (running (prefix (wt 1) end) began [])) tried few
      (step 0 AOE (running end began []) ∷ step 2 AWR (or_else' (running end began []) (running end began (wt 1 ∷ []))) ∷ []) tt
      (fork_steps
      (running end began []) (running (prefix (wt 1) end) began []) [] (step 0 AWR (running end began (wt 1 ∷ [])) ∷ [])
      (end_steps began []) (write_steps began [] 1 end));
  ATPASS_AOI = behind_nil
      AnyOrder (attempt (or_else end retry) (wt 1 ∷ [])) few
      (leaves (by AOI) (ongoing (or_else' (running end began (wt 1 ∷ [])) (running retry began (wt 1 ∷ []))) tried) few ∷ [])
      (passes
      AnyOrder (running (or_else end retry) began (wt 1 ∷ [])) tried few
      (step 0 AOI (or_else' (running end began (wt 1 ∷ [])) (running retry began (wt 1 ∷ []))) ∷ []) tt
      (or_else_steps began (wt 1 ∷ []) end retry));
  ATPASS_AOF = passes
      AnyOrder (or_else' (running retry began []) (running end began (wt 1 ∷ []))) tried few
      (step 0 AOF (running end began (wt 1 ∷ [])) ∷ []) tt
      (fork_steps (running retry began []) (running end began (wt 1 ∷ [])) [] [] (retry_steps began []) (end_steps began (wt 1 ∷ [])));
  ATRE_reads_there = retries AnyOrder began (rd 1 ∷ wt 2 ∷ []) tried few;
  ATRE_reads_missing = retries AnyOrder began (rd 0 ∷ []) tried few;
  ATFAIL_gone = fails_at_holds (rd 0 ∷ wt 1 ∷ []) 0 (omega arith);
  ATFAIL_read_twice = fails_at_holds (rd 2 ∷ rd 2 ∷ []) 2 (omega arith);
  ATFAIL_of_its_write = fails_at_holds (wt 0 ∷ rd 0 ∷ []) 0 (omega arith);
  ATFAIL_not_counted = fails_at_holds (rd 3 ∷ []) 3 (omega arith);
  ATOK_commits = commits AnyOrder began (rd 1 ∷ wt 0 ∷ rd 2 ∷ rd 1 ∷ []) tried few ((0 ∷ []) ∷ []) reads_all (single_order 0);
  ATOK_of_nothing = commits AnyOrder began [] tried few ([] ∷ []) (included_nil few) no_orders;
  ATOK_two_orders = commits
      AnyOrder began (wt 2 ∷ rd 1 ∷ wt 0 ∷ []) tried few ((2 ∷ 0 ∷ []) ∷ (0 ∷ 2 ∷ []) ∷ []) reads_1 (two_orders 2 0);
  ATOK_three_orders = commits
      AnyOrder began (wt 1 ∷ wt 2 ∷ wt 1 ∷ []) tried few
      ((1 ∷ 2 ∷ 1 ∷ []) ∷ (1 ∷ 1 ∷ 2 ∷ []) ∷ (2 ∷ 1 ∷ 1 ∷ []) ∷ []) (included_nil few) (three_orders 1 2);
  ATOK_log_order = commits
      LogOrder began (wt 2 ∷ rd 1 ∷ wt 0 ∷ []) tried few ((2 ∷ 0 ∷ []) ∷ []) reads_1 (log_orders (2 ∷ 0 ∷ []));
  ATOK_log_order_twice = commits
      LogOrder began (wt 1 ∷ wt 2 ∷ wt 1 ∷ []) tried few ((1 ∷ 2 ∷ 1 ∷ []) ∷ []) (included_nil few) (log_orders (1 ∷ 2 ∷ 1 ∷ []));
  COM_log_order = com_atok LogOrder (wt 2 ∷ rd 0 ∷ wt 1 ∷ []) (2 ∷ 1 ∷ []) refl (log_orders (2 ∷ 1 ∷ []));
  PARL_log_order = before_nil
      LogOrder (attempt end (wt 2 ∷ wt 1 ∷ [])) few (leaves (by (ATOK (wt 2 ∷ wt 1 ∷ []))) (par (out 2) (par (out 1) nil)) few ∷ [])
      (commits LogOrder began (wt 2 ∷ wt 1 ∷ []) tried few ((2 ∷ 1 ∷ []) ∷ []) (included_nil few) (log_orders (2 ∷ 1 ∷ [])));
  PARR_log_order = behind_nil
      LogOrder (attempt end (wt 2 ∷ wt 1 ∷ [])) few (leaves (by (ATOK (wt 2 ∷ wt 1 ∷ []))) (par (out 2) (par (out 1) nil)) few ∷ [])
      (commits LogOrder began (wt 2 ∷ wt 1 ∷ []) tried few ((2 ∷ 1 ∷ []) ∷ []) (included_nil few) (log_orders (2 ∷ 1 ∷ [])));
}
