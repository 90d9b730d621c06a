use Rattle.sheets.proofs.Rightly.{sheet_right}
use Rattle.sheets.proofs.theorems.sheet_is_right.Goals as goal

pub returns : goal.returns
returns g c = let met = g.met.W.Weight in sheet_right g.W.Weight met.exact met.bounded met.narrow
