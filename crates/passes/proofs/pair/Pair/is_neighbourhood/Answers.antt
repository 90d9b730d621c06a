use Rattle.std.proofs.Common.{◌≡◌, true, false, arith}
use Rattle.cuts.specs.Kinds.{kind_of}
use Rattle.passes.proofs.Readings.{third_mark, third_marked, gathered_skip}
use Rattle.passes.proofs.Fits.{more_fits, gathered_added}
use Rattle.passes.proofs.Grounds.{neighbourhood_decided}
use Rattle.passes.proofs.pair.Pair.is_neighbourhood.Goals as goal
use Rattle.passes.proofs.pair.Pair.is_neighbourhood.Goals.{then-is_third, else-is_third}

pub sum-sum-requires : goal.sum-sum-requires
sum-sum-requires g c =
    let lt = rw c.units-w-end.ensures at c.loop-w-test.true in
    let is : true ≡ third_mark c.args.self.now.graph.now.groups.now c.args.self.now.u c.args.self.now.v c.loop-w.w = cc in
    record { fits = λ ls es ex pair. more_fits g.met.W.Weight.laws ex pair c.loop-w.w lt is _ _ _ _ (c.loop-w.invariant ls es ex pair) c.entry.ensures.value c.entry-then-is_third.ensures.value c.lesser.ensures }

pub loop-w-preserved : goal.loop-w-preserved
loop-w-preserved g c = λ ls es ex pair.
    let before = c.loop-w.invariant ls es ex pair in
    let lt = rw c.units-w-end.ensures at c.loop-w-test.true in
    elim c.if-is_third.branch [
      | then-is_third w ↦
          let is : true ≡ third_mark c.args.self.now.graph.now.groups.now c.args.self.now.u c.args.self.now.v c.loop-w.w = cc in
          let more = gathered_added g.met.W.Weight.laws ex pair c.loop-w.w lt is _ _ _ _ _ before w.entry.ensures.value w.entry-then-is_third.ensures.value w.lesser.ensures w.sum-sum.ensures in
          cc
      | else-is_third w ↦
          let skips = third_marked ex c.args.self.now.u c.args.self.now.v c.loop-w.w false lt (cc) in
          let same = gathered_skip (kind_of g.W.Weight) c.args.self.now.graph.now.groups.now.units ls es c.args.self.now.u c.args.self.now.v c.loop-w.w skips in
          cc
    ]

pub returns : goal.returns
returns g c = λ ls es ex pair.
    let m = g.W.Weight in
    neighbourhood_decided (kind_of m) c.args.self.now.graph.now.groups.now.units ls es (m.value c.args.best) c.args.self.now.u c.args.self.now.v c.loop-w.w _ _ (c.loop-w.invariant ls es ex pair) (omega (arith, c.units-w-end.ensures)) c.at_most.ensures
