use Rattle.cuts.proofs.Grounds.{scan_safe}
use Rattle.cuts.proofs.theorems.scan_is_safe.Goals as goal

pub returns : goal.returns
returns g c = scan_safe _ g.met.W.Weight.laws
