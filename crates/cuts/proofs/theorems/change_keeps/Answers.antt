use Rattle.cuts.proofs.Kept.{change_keeps_lem}
use Rattle.cuts.proofs.theorems.change_keeps.Goals as goal

pub returns : goal.returns
returns g c = change_keeps_lem _ g.met.W.Weight.laws
