use Rattle.cuts.proofs.Grounds.{order_safe}
use Rattle.cuts.proofs.theorems.order_is_safe.Goals as goal

pub returns : goal.returns
returns g c = order_safe _ g.met.W.Weight.laws
