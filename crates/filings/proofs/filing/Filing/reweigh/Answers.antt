use Rattle.std.proofs.Common.{◌&&◌, ap, ◌∙◌}
use Rattle.plans.specs.Model.{model_of, reweighed}
use Rattle.filings.specs.Edits.{ends_of, outlives, reweighing, stays, reweigh_of}
use Rattle.filings.specs.declared.kept.Edit.TheVariants.{Reweigh}
use Rattle.filings.proofs.Staying.{reweighed_stays}
use Rattle.filings.proofs.Settling.{in_model, now_next, outlives_it, stays_filed}
use Rattle.filings.proofs.filing.Filing.reweigh.Goals as goal

pub returns : goal.returns
returns g c =
    let w = g.W.Weight in
    let met = g.met.W.Weight in
    let f = c.args.self.now in
    let m = model_of f.plan in
    let k = c.args.link in
    let old = c.in_ok-old.old in
    let was = c.in_ok-old.ensures.value in
    let done = c.in_ok-reweigh.ensures in
    let settled = c.settle.ensures in
    let kept = settled.kept ∙ ap (λ l. f.kept.kept && outlives f.kept.sides (Reweigh l c.change.result)) c.from.ensures ∙ ap (λ h. f.kept.kept && outlives f.kept.sides (Reweigh (ends_of old) h)) c.change.ensures ∙ ap (λ b. f.kept.kept && b) (outlives_it f.plan f.kept.sides (reweigh_of w c.args.weight) k old was.0 was.1) in
    let filed = stays_filed f _ (stays w m f.kept.sides (reweighing k c.args.weight)) (reweighed k c.args.weight m) (now_next done.called) kept settled.sides
    (λ fair new marks stay. reweighed_stays w met.laws met.bounded m f.kept.sides fair marks k (in_model f.plan k old was.0 was.1).0 c.args.weight new stay) in
    record {
      filed = filed;
      called = done.called;
      kept = (kept, settled.sides);
    }
