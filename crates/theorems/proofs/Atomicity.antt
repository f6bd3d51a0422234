-- Demand 3 over a list of calls, from the proofs of its sentences, and what it gives for a read that fails.
-- Assumes nothing.
use Rattle.semantics.specs.Claims.Atomicity.{AtomicityOfCalls, initial_buffers, final_buffers, all_done, done_without_aborted, atomic}
use Rattle.semantics.specs.Claims.Shortages.{ReadLacksOne}
use mathlib.Core.Path.{◌≡◌, refl, sym, ap, ◌∙◌}
use mathlib.Core.List.{map}
use native.Mathlib.Omega.{arith}
use lib.ListN.{length, take}
use lib.Seq.{take-length}
use Rattle.calculus.specs.Reduction.{ARDF}
use Rattle.semantics.specs.Definitions.Configuration.{opening}
use Rattle.semantics.specs.Definitions.Stored.{bytes_of, configuration_of}
use Rattle.semantics.specs.Definitions.Moves.{inside, rule_number}
use Rattle.semantics.specs.Definitions.Run.{steps, final_configuration}
use Rattle.theorems.proofs.CallsAsOne.{first_buffers, opened_calls}
use Rattle.theorems.proofs.AbandonedAttempts.{kept_runs}
use Rattle.theorems.proofs.GoodTable.{accepted_is_good}
use Rattle.theorems.proofs.RoundTrip.{read_back}
use Rattle.theorems.proofs.Runs.{runs_steps}
use Rattle.theorems.proofs.Simulation.{atomic_of_runs, unbegun_stations, each_choice}
use Rattle.theorems.proofs.PathClause.{commits_ok, attempts_ok}
use Rattle.theorems.proofs.Converse.{converse_holds}
use Rattle.theorems.proofs.StatedMoves.{chosen_printed}
use Rattle.theorems.proofs.ShortageClaims.{opened_lacks_one}

pub atomicity_of_calls : AtomicityOfCalls
unfolding AtomicityOfCalls initial_buffers final_buffers all_done done_without_aborted atomic first_buffers
atomicity_of_calls table t accepts buffer size first cs =
    let all = opened_calls table t accepts buffer size first cs in
    let led = runs_steps all.runs in
    let run = atomic_of_runs t first all.runs in
    let spared = kept_runs t first all.runs in
    let kept_led = runs_steps spared.runs in
    let kept_run = atomic_of_runs t first spared.runs in
    let told = spared.counters first first refl in
    record {
      as_one_step_run = record {
        never_rejected = all.numbers;
        whole = led.0;
        hall = all.hall ∙ ap bytes_of (sym led.1);
        after = all.after;
        read =
            ap (configuration_of t.terms) all.hall
            ∙ read_back t.terms all.after (accepted_is_good table t accepts.1) all.well_formed;
        counts = ap (λ a. a.counts) (sym run);
        stations = unbegun_stations all.after.components ∙ ap (λ a. map (λ x. x.station) a.stations) (sym run);
        tally = all.tally ∙ ap (λ a. a.counters) (sym run);
        each_choice = each_choice t first all.runs;
      };
      abandoned_never_happened = record {
        whole = kept_led.0;
        hall = ap bytes_of kept_led.1 ∙ sym all.hall;
        one_step_holds =
            kept_run
            ∙ λ i. record {
              counts = (sym run i).counts;
              stations = (sym run i).stations;
              counters =
                  (told
                  ∙ ap (λ a. record { commits = a.counters.commits; failed = first.failed; retries = first.retries }) (sym run)) i;
            };
        same_effects = spared.same_effects;
        none_abandoned = spared.none_abandoned;
      };
      first_readable_paths = record {
        commits = commits_ok t first (all_done table t buffer first cs);
        attempts = λ j h. attempts_ok t first (all_done table t buffer first cs) j (rw led.0 h);
      };
      converse = record { choices_found = converse_holds table t accepts buffer size first cs };
    }

pub read_lacks_one : ReadLacksOne
unfolding ReadLacksOne final_buffers initial_buffers first_buffers all_done rule_number
read_lacks_one table t accepts buffer size first cs h g read p k w q =
    let all = opened_calls table t accepts buffer size first cs in
    let led = runs_steps all.runs in
    let es = all_done table t buffer first cs in
    let back = ap (configuration_of t.terms) all.hall ∙ read_back t.terms all.after (accepted_is_good table t accepts.1) all.well_formed in
    let same : h ≡ all.after = cc in
    let whole : final_configuration (opening t) (take (length (steps (opening t) es)) (steps (opening t) es)) ≡ h =
    rw (take-length (steps (opening t) es)) (led.1 ∙ sym same) in
    opened_lacks_one (chosen_printed h (inside p k) ARDF w g q)
    (λ n M s u f. (attempts_ok t first es (length (steps (opening t) es)) (omega arith) p n M s u (rw whole f)).2)
