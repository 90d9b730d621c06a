use Rattle.sheets.specs.Fields.{fields}
use Rattle.sheets.proofs.Firsts.{one_fault_lem}
use Rattle.sheets.proofs.theorems.one_fault.Goals as goal

pub returns : goal.returns
returns g c bs d e p q = one_fault_lem g.W.Weight bs (fields g.W.Weight bs) d e p q
