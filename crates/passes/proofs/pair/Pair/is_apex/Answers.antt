use Rattle.std.proofs.Common.{◌≡◌, true, false, sym, ◌∙◌}
use Rattle.std.proofs.lemmas.Bool.{both_ways}
use Rattle.passes.proofs.Readings.{third_mark, third_marked, third_is}
use Rattle.passes.proofs.Fits.{low_fits, high_fits, low_doubled, high_doubled, tested_low, tested_high}
use Rattle.passes.proofs.pair.Pair.is_apex.Goals as goal
use Rattle.passes.proofs.pair.Pair.is_apex.Goals.{then-is_third, else-is_third}

-- what joins the first of the two to the other and to a third group, and twice that
pub sum-requires : goal.sum-requires
sum-requires g c =
    let is : true ≡ third_mark c.args.self.now.graph.now.groups.now c.args.self.now.u c.args.self.now.v c.args.apex = cc in
    record { fits = λ ls es ex pair. low_fits g.met.W.Weight.laws ex pair c.args.apex c.requires is _ _ c.entry-joint.ensures.value c.entry-then-is_third.ensures.value }

pub is_within_twice-requires : goal.is_within_twice-requires
is_within_twice-requires g c =
    let is : true ≡ third_mark c.args.self.now.graph.now.groups.now c.args.self.now.u c.args.self.now.v c.args.apex = cc in
    record {
      fits = λ ls es ex pair.
          let fit = low_fits g.met.W.Weight.laws ex pair c.args.apex c.requires is _ _ c.entry-joint.ensures.value c.entry-then-is_third.ensures.value in
          low_doubled g.met.W.Weight.laws ex pair c.args.apex c.requires is _ _ c.entry-joint.ensures.value _ (c.sum.ensures fit) c.entry-then-is_third.ensures.value;
    }

-- and the second
pub sum-requires-then-is_within_twice : goal.sum-requires-then-is_within_twice
sum-requires-then-is_within_twice g c =
    elim c.if-is_third.branch [
      | then-is_third w ↦
          let is : true ≡ third_mark c.args.self.now.graph.now.groups.now c.args.self.now.u c.args.self.now.v c.args.apex = cc in
          record { fits = λ ls es ex pair. high_fits g.met.W.Weight.laws ex pair c.args.apex c.requires is _ _ c.entry-joint.ensures.value c.entry-then-is_within_twice-2.ensures.value }
      | else-is_third w ↦ absurd (both_ways _ (w.value-is ∙ w.if-is_third.false) c.if-is_within_twice.true)
    ]

pub is_within_twice-requires-then-is_within_twice : goal.is_within_twice-requires-then-is_within_twice
is_within_twice-requires-then-is_within_twice g c =
    elim c.if-is_third.branch [
      | then-is_third w ↦
          let is : true ≡ third_mark c.args.self.now.graph.now.groups.now c.args.self.now.u c.args.self.now.v c.args.apex = cc in
          record {
            fits = λ ls es ex pair.
                let fit = high_fits g.met.W.Weight.laws ex pair c.args.apex c.requires is _ _ c.entry-joint.ensures.value c.entry-then-is_within_twice-2.ensures.value in
                high_doubled g.met.W.Weight.laws ex pair c.args.apex c.requires is _ _ c.entry-joint.ensures.value _ (c.sum-then-is_within_twice.ensures fit) c.entry-then-is_within_twice-2.ensures.value;
          }
      | else-is_third w ↦ absurd (both_ways _ (w.value-is ∙ w.if-is_third.false) c.if-is_within_twice.true)
    ]

pub returns-then-is_within_twice : goal.returns-then-is_within_twice
returns-then-is_within_twice g c = λ ls es ex pair.
    elim c.if-is_third.branch [
      | then-is_third w ↦
          let is : true ≡ third_mark c.args.self.now.graph.now.groups.now c.args.self.now.u c.args.self.now.v c.args.apex = cc in
          let low = tested_low g.met.W.Weight.laws ex pair c.args.apex c.requires is _ _ _ _ _ c.entry-joint.ensures.value w.sum.ensures w.is_within_twice.ensures w.entry.ensures.value w.entry-then-is_third.ensures.value in
          let high = tested_high g.met.W.Weight.laws ex pair c.args.apex c.requires is _ _ _ _ _ c.entry-joint.ensures.value c.sum-then-is_within_twice.ensures c.is_within_twice-then-is_within_twice.ensures c.entry-then-is_within_twice.ensures.value c.entry-then-is_within_twice-2.ensures.value in
          (λ e. (third_is ex pair c.args.apex c.requires is, low ∙ sym w.value-is ∙ c.if-is_within_twice.true, high ∙ e), λ m. sym high ∙ m.2)
      | else-is_third w ↦ absurd (both_ways _ (w.value-is ∙ w.if-is_third.false) c.if-is_within_twice.true)
    ]

pub returns-else-is_within_twice : goal.returns-else-is_within_twice
returns-else-is_within_twice g c = λ ls es ex pair.
    elim c.if-is_third.branch [
      | then-is_third w ↦
          let is : true ≡ third_mark c.args.self.now.graph.now.groups.now c.args.self.now.u c.args.self.now.v c.args.apex = cc in
          let low = tested_low g.met.W.Weight.laws ex pair c.args.apex c.requires is _ _ _ _ _ c.entry-joint.ensures.value w.sum.ensures w.is_within_twice.ensures w.entry.ensures.value w.entry-then-is_third.ensures.value in
          (λ e. absurd (both_ways _ c.if-is_within_twice.false e), λ m. w.value-is ∙ sym low ∙ m.1)
      | else-is_third w ↦
          let not_third = third_marked ex c.args.self.now.u c.args.self.now.v c.args.apex false c.requires (cc) in
          (λ e. absurd (both_ways _ c.if-is_within_twice.false e), λ m. absurd (both_ways _ not_third m.0))
    ]
