use Rattle.cuts.proofs.Always.{record_exists_lem}
use Rattle.cuts.proofs.theorems.record_exists.Goals as goal

pub returns : goal.returns
returns g c = record_exists_lem _ g.met.W.Weight.laws
