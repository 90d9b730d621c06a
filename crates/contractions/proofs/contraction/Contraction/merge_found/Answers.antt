use Rattle.std.proofs.Common.{length, get_or, ap, ◌∙◌, subst, arith}
use Rattle.cuts.specs.Kinds.{kind_of}
use Rattle.scans.specs.Scanned.{pairs_of}
use Rattle.contractions.specs.Working.{IsAt}
use Rattle.contractions.proofs.Founds.{looked, PairGroups, found_over, at_passed, pair_stands, pair_merged}
use Rattle.contractions.proofs.Sparing.{gone_on_then}
use Rattle.contractions.proofs.contraction.Contraction.merge_found.Given as given
use Rattle.contractions.proofs.contraction.Contraction.merge_found.Goals as goal
use Rattle.contractions.proofs.contraction.Contraction.merge_found.Goals.{After-of-b}

-- what was read are the groups of the pair
pair_groups : (g : given.Over) (c : After-of-b g) → PairGroups c.args.found.now c.loop-first.first-index c.loop-first.self.groups c.of-a.result c.of-b.result
pair_groups g c =
    let i = c.loop-first.first-index in
    let pairs = c.pairs-first-items.result.now in
    let same = c.pairs-first-items.ensures.value in
    let inside = c.loop-first-test.true in
    let bounds = c.pairs-first-items.ensures.within i inside in
    let units = c.requires in
    let on = c.loop-first.invariant.on.units in
    record {
      within = omega (arith, inside, ap length same);
      pair = get_or pairs i (0, 0);
      pair_is = ap (λ ps. get_or ps i (0, 0)) same;
      one = omega (arith, bounds.0, units, on);
      other = omega (arith, bounds.1, units, on);
      a_is = c.of-a.ensures.value;
      b_is = c.of-b.ensures.value;
    }

pub loop-first-preserved-then-a-b : goal.loop-first-preserved-then-a-b
loop-first-preserved-then-a-b g c =
    let inv = c.loop-first.invariant in
    let are = pair_groups g (goal.at.loop-first-preserved-then-a-b g c).After-of-b in
    record {
      on = inv.on;
      scans = inv.scans;
      at = λ n ls p was. at_passed g.W.Weight n ls c.args.found.now c.loop-first.first-index p _ _ _ _ _ (inv.at n ls p was) _ _ are c.if-a-b.true;
    }

pub loop-first-preserved : goal.loop-first-preserved
loop-first-preserved g c =
    let w = g.W.Weight in
    let i = c.loop-first.first-index in
    let inv = c.loop-first.invariant in
    let found = c.args.found.now in
    let e = c.merger_of in
    let r = c.merge-best in
    let are = pair_groups g (goal.at.loop-first-preserved g c).After-of-b in
    record {
      on = gone_on_then inv.on r.ensures.on;
      scans = r.ensures.scans ∙ inv.scans;
      at = λ n ls p was.
          let at = inv.at n ls p was in
          let q = looked w n ls found i p in
          let (less, low, high) = pair_stands w n ls found i p _ _ _ _ _ at _ _ are c.if-a-b.false e.result e.ensures in
          let on = c.if-not-goes_on.ensures.over n ls q at in
          subst (λ q. IsAt w n ls q r.new.self r.result)
          (pair_merged w n ls found i p _ _ _ _ _ at _ _ are c.if-a-b.false e.result e.ensures on)
          (r.ensures.at n ls q at low high less);
    }

pub returns-then-not-goes_on-clause-at : goal.returns-then-not-goes_on-clause-at
returns-then-not-goes_on-clause-at g c = λ n ls p was.
    let w = g.W.Weight in
    let i = c.loop-first.first-index in
    let found = c.args.found.now in
    let at = c.loop-first.invariant.at n ls p was in
    let over = c.if-not-goes_on.ensures.over n ls (looked w n ls found i p) at in
    subst (λ q. IsAt w n ls q c.loop-first.self c.loop-first.best) (found_over (kind_of w) n ls (pairs_of found) i p over) at
