use Rattle.cuts.proofs.Alike.{turned_weakest}
use Rattle.cuts.proofs.theorems.turned_is_weakest.Goals as goal

pub returns : goal.returns
returns g c = turned_weakest _
