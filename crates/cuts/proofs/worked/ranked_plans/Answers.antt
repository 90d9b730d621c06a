use Rattle.cuts.proofs.Examples.{ranked_right}
use Rattle.cuts.proofs.worked.ranked_plans.Goals as goal

pub returns : goal.returns
returns c = ranked_right
