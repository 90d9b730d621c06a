use Rattle.cuts.proofs.Grounds.{grounds_safe}
use Rattle.cuts.proofs.theorems.grounds_are_safe.Goals as goal

pub returns : goal.returns
returns g c = grounds_safe _ g.met.W.Weight.laws
