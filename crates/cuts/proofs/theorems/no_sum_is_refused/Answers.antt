use Rattle.cuts.proofs.Limits.{no_sum_refused}
use Rattle.cuts.proofs.theorems.no_sum_is_refused.Goals as goal

pub returns : goal.returns
returns g c = no_sum_refused _ g.met.W.Weight.laws
