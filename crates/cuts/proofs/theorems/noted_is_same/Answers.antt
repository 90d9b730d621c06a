use Rattle.cuts.specs.Kinds.{kind}
use Rattle.cuts.proofs.Noted.{noted_same}
use Rattle.cuts.proofs.theorems.noted_is_same.Goals as goal

pub returns : goal.returns
returns g c = noted_same (kind g.W.Weight.zero g.W.Weight.plus g.W.Weight.le g.W.Weight.size)
