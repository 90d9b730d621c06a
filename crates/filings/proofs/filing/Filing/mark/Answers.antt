use Rattle.std.proofs.Common.{cond, ◌&&◌, eqb, ap, ◌∙◌}
use Rattle.plans.specs.Model.{model_of, marked}
use Rattle.filings.specs.Edits.{mark_of, marking, outlives, stays}
use Rattle.filings.proofs.Staying.{marked_stays}
use Rattle.filings.proofs.Settling.{in_model, now_next, outlives_it, stays_filed, mark_below, by_mark, was_accepted}
use Rattle.filings.specs.declared.kept.Edit.TheVariants.{Out, In}
use Rattle.filings.proofs.filing.Filing.mark.Goals as goal

pub returns : goal.returns
returns g c =
    let w = g.W.Weight in
    let met = g.met.W.Weight in
    let f = c.args.self.now in
    let m = model_of f.plan in
    let k = c.args.link in
    let old = c.in_ok-old.old in
    let was = c.in_ok-old.ensures.value in
    let done = c.in_ok-mark.ensures in
    let settled = c.settle.ensures in
    let low = mark_below m k c.args.mark (was_accepted done.called) in
    let kept = settled.kept ∙ ap (λ e. f.kept.kept && outlives f.kept.sides e) (c.mark_edit.ensures ∙ by_mark c.args.mark low _ _ ∙ ap (λ l. cond (eqb c.args.mark 0) (Out l) (In l)) c.from.ensures) ∙ ap (λ b. f.kept.kept && b) (outlives_it f.plan f.kept.sides (mark_of c.args.mark) k old was.0 was.1) in
    let filed = stays_filed f _ (stays w m f.kept.sides (marking k c.args.mark)) (marked k (eqb c.args.mark 1) m) (now_next done.called) kept settled.sides
    (λ fair new marks stay. marked_stays w met.laws met.bounded m f.kept.sides fair marks k (in_model f.plan k old was.0 was.1).0 c.args.mark low new stay) in
    record {
      filed = filed;
      called = done.called;
      kept = (kept, settled.sides);
    }
