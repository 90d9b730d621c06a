use Rattle.cuts.proofs.Kept.{edits_keep_lem}
use Rattle.cuts.proofs.theorems.edits_keep.Goals as goal

pub returns : goal.returns
returns g c = edits_keep_lem _ g.met.W.Weight.laws
