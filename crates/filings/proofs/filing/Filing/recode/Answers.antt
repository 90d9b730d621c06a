use Rattle.plans.specs.Model.{model_of, recoded}
use Rattle.filings.specs.Edits.{outlives}
use Rattle.filings.specs.declared.kept.Edit.TheVariants.{Recode}
use Rattle.filings.proofs.Staying.{recoded_stays}
use Rattle.filings.proofs.Settling.{now_next, stays_filed}
use Rattle.filings.proofs.filing.Filing.recode.Goals as goal

pub returns-clause-filed : goal.returns-clause-filed
returns-clause-filed g c =
    let w = g.W.Weight in
    let met = g.met.W.Weight in
    let f = c.args.self.now in
    let done = c.in_ok-recode.ensures in
    let settled = c.settle.ensures in
    stays_filed f _ (outlives f.kept.sides Recode) (recoded c.args.unit c.args.text.now (model_of f.plan)) (now_next done.called) settled.kept settled.sides
    (λ fair new marks stay. recoded_stays w met.laws met.bounded (model_of f.plan) f.kept.sides fair marks c.args.unit c.args.text.now)
