use Rattle.std.proofs.Common.{◌≡◌}
use Rattle.cuts.specs.Kinds.{kind_of}
use Rattle.cuts.specs.Tests.{gathered}
use Rattle.passes.specs.Pairs.{InEachPlan}
use Rattle.passes.proofs.pair.Pair.is_neighbourhood.Given as goal

-- the sum so far is that of the third groups so far
abbrev pub invariant-loop-w : goal.invariant-loop-w
invariant-loop-w g l = InEachPlan g.W.Weight l.self (λ n ls es u v. g.W.Weight.value l.sum ≡ gathered (kind_of g.W.Weight) n ls es u v l.w)
