use Rattle.cuts.proofs.Examples.{plain_right}
use Rattle.cuts.proofs.worked.plain_plans.Goals as goal

pub returns : goal.returns
returns c = plain_right
