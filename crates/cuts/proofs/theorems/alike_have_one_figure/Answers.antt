use Rattle.cuts.proofs.Alike.{alike_same}
use Rattle.cuts.proofs.theorems.alike_have_one_figure.Goals as goal

pub returns : goal.returns
returns g c = alike_same _ g.met.W.Weight.laws
