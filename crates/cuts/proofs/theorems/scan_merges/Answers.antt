use Rattle.cuts.proofs.Finds.{scan_merges_lem}
use Rattle.cuts.proofs.theorems.scan_merges.Goals as goal

pub returns : goal.returns
returns g c = scan_merges_lem _ g.met.W.Weight.laws
