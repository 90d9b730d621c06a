use Rattle.sheets.proofs.Singled.{sheet_told}
use Rattle.sheets.proofs.theorems.sheet_is_told.Goals as goal

pub returns : goal.returns
returns g c = let met = g.met.W.Weight in sheet_told g.W.Weight met.exact met.narrow met.told
