use Rattle.cuts.proofs.Outcomes.{outcome_promised}
use Rattle.cuts.proofs.theorems.outcome_is_promised.Goals as goal

pub returns : goal.returns
returns g c = outcome_promised _ g.met.W.Weight.laws
