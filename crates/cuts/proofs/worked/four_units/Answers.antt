use Rattle.std.proofs.Common.{[], ◌∷◌, sym}
use Rattle.cuts.specs.Outcomes.{marking}
use Rattle.cuts.proofs.Examples.{plain_right}
use Rattle.cuts.proofs.worked.four_units.Goals as goal

pub returns : goal.returns
returns c = (marking (0 ∷ 0 ∷ 1 ∷ 1 ∷ []), plain_right.0.weakest, sym plain_right.0.weighs)
