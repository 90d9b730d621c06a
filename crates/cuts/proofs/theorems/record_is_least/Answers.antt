use Rattle.cuts.proofs.Works.{record_least}
use Rattle.cuts.proofs.theorems.record_is_least.Goals as goal

pub returns : goal.returns
returns g c = record_least _ g.met.W.Weight.laws
