-- Each of the thirteen moves, worked out once by computation.
-- Assumes nothing.
use mathlib.Core.Path.{refl}
use Rattle.semantics.specs.Definitions.Moves.{entry_answer}
use Rattle.semantics.specs.Checks.StatedMoves.{tried, both, GivesTold, GivesInside, MovesWorked}

pub moves_worked : MovesWorked
unfolding GivesTold GivesInside tried both entry_answer
moves_worked =
    record {
      OUT_1 = refl;
      IN_2 = refl;
      REP_3 = refl;
      ATST_4 = refl;
      ATRE_5 = refl;
      ATFAIL_6 = refl;
      ATOK_7 = refl;
      ARDOK_8 = refl;
      ARDF_9 = refl;
      AWR_10 = refl;
      AOI_11 = refl;
      AOF_12 = refl;
      AOE_13 = refl;
    }
