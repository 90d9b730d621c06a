use Rattle.std.proofs.Common.{refl}
use Rattle.cuts.specs.Kinds.{kind_of}
use Rattle.passes.proofs.Fits.{twice_fits}
use Rattle.passes.proofs.Grounds.{unbalanced_judged, triangle_judged, neighbourhood_judged, none_judged, two_decided}
use Rattle.passes.proofs.pair.Pair.ground.Goals as goal

pub is_unbalanced-requires : goal.is_unbalanced-requires
is_unbalanced-requires g c = record { fits = λ ls es ex pair. twice_fits g.met.W.Weight.laws ex pair _ c.entry-joint.ensures.value }

pub returns-then-is_unbalanced : goal.returns-then-is_unbalanced
returns-then-is_unbalanced g c = λ ls es ex pair.
    let best = g.W.Weight.value c.args.best in
    let two = two_decided g.met.W.Weight.laws ex pair best _ c.entry-joint.ensures.value _ _ _ _ c.at_most.ensures refl refl c.is_unbalanced.ensures in
    unbalanced_judged (kind_of g.W.Weight) c.args.self.now.graph.now.groups.now.units ls es best c.args.self.now.u c.args.self.now.v
    (_, two.0, c.if-at_most.false)
    (_, two.1, c.if-is_unbalanced.true)

pub returns-then-is_triangle : goal.returns-then-is_triangle
returns-then-is_triangle g c = λ ls es ex pair.
    let best = g.W.Weight.value c.args.best in
    let two = two_decided g.met.W.Weight.laws ex pair best _ c.entry-joint.ensures.value _ _ _ _ c.at_most.ensures refl refl c.is_unbalanced.ensures in
    triangle_judged (kind_of g.W.Weight) c.args.self.now.graph.now.groups.now.units ls es best c.args.self.now.u c.args.self.now.v
    (_, two.0, c.if-at_most.false)
    (_, two.1, c.if-is_unbalanced.false)
    (_, c.is_triangle.ensures ls es ex pair best, c.if-is_triangle.true)

pub returns-then-is_neighbourhood : goal.returns-then-is_neighbourhood
returns-then-is_neighbourhood g c = λ ls es ex pair.
    let best = g.W.Weight.value c.args.best in
    let two = two_decided g.met.W.Weight.laws ex pair best _ c.entry-joint.ensures.value _ _ _ _ c.at_most.ensures refl refl c.is_unbalanced.ensures in
    neighbourhood_judged (kind_of g.W.Weight) c.args.self.now.graph.now.groups.now.units ls es best c.args.self.now.u c.args.self.now.v
    (_, two.0, c.if-at_most.false)
    (_, two.1, c.if-is_unbalanced.false)
    (_, c.is_triangle.ensures ls es ex pair best, c.if-is_triangle.false)
    (_, c.is_neighbourhood.ensures ls es ex pair, c.if-is_neighbourhood.true)

pub returns : goal.returns
returns g c = λ ls es ex pair.
    let best = g.W.Weight.value c.args.best in
    let two = two_decided g.met.W.Weight.laws ex pair best _ c.entry-joint.ensures.value _ _ _ _ c.at_most.ensures refl refl c.is_unbalanced.ensures in
    none_judged (kind_of g.W.Weight) c.args.self.now.graph.now.groups.now.units ls es best c.args.self.now.u c.args.self.now.v
    (_, two.0, c.if-at_most.false)
    (_, two.1, c.if-is_unbalanced.false)
    (_, c.is_triangle.ensures ls es ex pair best, c.if-is_triangle.false)
    (_, c.is_neighbourhood.ensures ls es ex pair, c.if-is_neighbourhood.false)
