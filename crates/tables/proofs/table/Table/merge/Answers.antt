use Rattle.std.proofs.Common.{◌≡◌, ◌+◌, ◌≤◌, [], ◌∷◌, ◌++◌, sym, ◌∙◌, subst, subst₂, arith}
use Rattle.weights.specs.Laws.{limit}
use Rattle.tables.specs.Meaning.{Holds}
use Rattle.tables.specs.Sums.{FitsMerger, Merged}
use Rattle.tables.proofs.Turns.{Merging, merging_skip, merging_both, merging_sum, merging_more, merging_all}
use Rattle.tables.proofs.table.Table.merge.Goals as goal

pub loop-w-preserved-then-not-is_third : goal.loop-w-preserved-then-not-is_third
loop-w-preserved-then-not-is_third g c =
    record {
      memory = c.loop-w.invariant.memory;
      merging = merging_skip g.W.Weight _ _ _ _ _ g.met.W.Weight.laws _ _ _ c.loop-w-test.true (sym c.is_third.ensures ∙ c.if-not-is_third.true) c.loop-w.invariant.merging;
    }

-- the entries of the two groups with a third one
pub sum_in_merger-both-requires : goal.sum_in_merger-both-requires
sum_in_merger-both-requires g c = λ κs outlives.
    let W = g.W.Weight in
    let same = c.loop-w.invariant.memory.0 in
    let low = rw same at c.entry.ensures.value in
    let high = rw same at c.entry-in-loop-w.ensures.value in
    let first = c.requires.1.1.1.1 in
    let is_third = sym c.is_third.ensures ∙ c.if-not-is_third.false in
    let fits = merging_both W _ _ _ _ _ g.met.W.Weight.laws c.loop-w.self.weights.now c.loop-w.w c.loop-w.degree c.loop-w-test.true is_third c.loop-w.invariant.merging in
    (outlives, subst (λ m. FitsMerger W m (W.value c.entry.result) (W.value c.entry-in-loop-w.result)) (sym first) (rw (low, high) fits))

-- the degree so far and what they come to
pub sum_in_merger-degree-requires : goal.sum_in_merger-degree-requires
sum_in_merger-degree-requires g c = λ κs outlives.
    let W = g.W.Weight in
    let same = c.loop-w.invariant.memory.0 in
    let low = rw same at c.entry.ensures.value in
    let high = rw same at c.entry-in-loop-w.ensures.value in
    let first = c.requires.1.1.1.1 in
    let is_third = sym c.is_third.ensures ∙ c.if-not-is_third.false in
    let value = subst₂ (λ x y. W.size x + W.size y ≤ limit → W.value c.sum_in_merger-both.result ≡ W.plus x y) low high c.sum_in_merger-both.ensures in
    let fits = merging_sum W _ _ _ _ _ g.met.W.Weight.laws c.loop-w.self.weights.now c.loop-w.w c.loop-w.degree c.loop-w-test.true is_third c.loop-w.invariant.merging c.sum_in_merger-both.result value in
    (outlives, subst (λ m. FitsMerger W m (W.value c.loop-w.degree) (W.value c.sum_in_merger-both.result)) (sym first) fits)

pub loop-w-preserved : goal.loop-w-preserved
loop-w-preserved g c =
    let W = g.W.Weight in
    let same = c.loop-w.invariant.memory in
    let kept = c.set_joint.ensures.memory in
    let room = c.loop-w.self.room in
    let size = rw same.0 at room in
    let low = rw same.0 at c.entry.ensures.value in
    let high = rw same.0 at c.entry-in-loop-w.ensures.value in
    let value = subst₂ (λ x y. W.size x + W.size y ≤ limit → W.value c.sum_in_merger-both.result ≡ W.plus x y) low high c.sum_in_merger-both.ensures in
    let written = rw same.0 at c.set_joint.ensures.written in
    let is_third = sym c.is_third.ensures ∙ c.if-not-is_third.false in
    record {
      memory = (kept.0 ∙ same.0, kept.1 ∙ same.1);
      merging = subst (λ t. Merging W c.args.self.now.units c.args.low c.args.high c.args.self.now.weights.now c.args.groups.now t (c.loop-w.w + 1) c.sum_in_merger-degree.result) (sym written)
          (merging_more W _ _ _ _ _ g.met.W.Weight.laws c.loop-w.self.weights.now c.loop-w.w c.loop-w.degree c.loop-w-test.true is_third c.loop-w.invariant.merging
          c.sum_in_merger-both.result value c.sum_in_merger-degree.result c.requires.1.1.0 size c.sum_in_merger-degree.ensures);
    }

pub returns-clause-holds : goal.returns-clause-holds
returns-clause-holds g c =
    let W = g.W.Weight in
    let n = c.args.self.now.units in
    let low = c.args.low in
    let same = c.loop-w.invariant.memory in
    let all : c.loop-w.w ≡ n = omega arith in
    let room = c.loop-w.self.room in
    let size = rw same.0 at room in
    let written = rw same.0 at c.set_entry.ensures.written in
    let done = subst (λ w. Merging W n low c.args.high c.args.self.now.weights.now c.args.groups.now c.loop-w.self.weights.now w c.loop-w.degree) all c.loop-w.invariant.merging in
    subst (λ m. Merged W m c.set_entry.new.self) (sym c.requires.1.1.1.1)
    (λ ls es e ex sl sh less el eh. subst₂ (λ m t. Holds W m ls (es ++ (e ∷ [])) t) (sym (c.set_entry.ensures.memory.0 ∙ same.0)) (sym written) (merging_all W n low _ _ _ g.met.W.Weight.laws c.loop-w.self.weights.now c.loop-w.degree size done ls es e ex sl sh less el eh))
