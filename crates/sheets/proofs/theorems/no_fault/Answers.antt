use Rattle.sheets.specs.Fields.{fields}
use Rattle.sheets.proofs.Firsts.{no_fault_lem}
use Rattle.sheets.proofs.theorems.no_fault.Goals as goal

pub returns : goal.returns
returns g c bs e h p = no_fault_lem g.W.Weight bs (fields g.W.Weight bs) e h p
