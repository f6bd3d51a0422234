-- RD and WT of a log (document 004, "Notation"). Their laws: proofs/Logs. The document's print says RD(wt a.δ) = WT(δ), a slip
-- for RD(δ); both are empty on the empty log.
-- Assumes nothing.
use Rattle.calculus.specs.Syntax.{Name, rd, wt, Log}
use Rattle.std.specs.Prelude.{List, [], ◌∷◌}

-- RD(δ): the names read, in log order
unfoldable pub RD : Log → List Name
RD [] = []
RD (rd a ∷ δ) = a ∷ RD δ
RD (wt a ∷ δ) = RD δ

-- WT(δ): the names written, in log order
unfoldable pub WT : Log → List Name
WT [] = []
WT (rd a ∷ δ) = WT δ
WT (wt a ∷ δ) = a ∷ WT δ
