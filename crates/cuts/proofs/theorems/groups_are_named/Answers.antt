use Rattle.cuts.proofs.Names.{groups_named}
use Rattle.cuts.proofs.theorems.groups_are_named.Goals as goal

pub returns : goal.returns
returns c = groups_named
