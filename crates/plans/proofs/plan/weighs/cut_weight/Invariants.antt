use Rattle.cuts.specs.Divisions.{differ}
use Rattle.plans.specs.Divided.{side_of}
use Rattle.plans.proofs.Cutting.{Adding}
use Rattle.plans.proofs.plan.weighs.cut_weight.Given as goal

abbrev pub invariant-loop-link : goal.invariant-loop-link
invariant-loop-link g l = Adding g.W.Weight (λ x y. differ (side_of l.marks x) (side_of l.marks y)) g.met.W.Weight.laws l.links l.link-index (g.W.Weight.value l.sum)
