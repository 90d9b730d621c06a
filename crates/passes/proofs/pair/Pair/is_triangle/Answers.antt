use Rattle.std.proofs.Common.{refl, arith, rules}
use Rattle.std.proofs.lemmas.Iterator.{cases_from_any, YieldsList-from_range}
use Rattle.cuts.specs.Kinds.{kind_of}
use Rattle.passes.specs.Passed.{Apex}
use Rattle.passes.proofs.Grounds.{triangle_decided}
use Rattle.passes.proofs.pair.Pair.is_triangle.Goals as goal

pub returns : goal.returns
returns g c = λ ls es ex pair best.
    let n = c.args.self.now.graph.now.groups.now.units in
    let apex = Apex (kind_of g.W.Weight) n ls es c.args.self.now.u c.args.self.now.v in
    triangle_decided (kind_of g.W.Weight) n ls es best c.args.self.now.u c.args.self.now.v c.any.result _ c.units.ensures
    (cases_from_any _ _ _ apex (λ w. apex w → ⊥) c.any.ensures.ran (YieldsList-from_range 0 _ _ refl (omega arith)) (λ x q k. search rules) (λ x q k. search rules))
