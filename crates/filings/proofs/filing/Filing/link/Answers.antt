use Rattle.std.proofs.Common.{true}
use Rattle.plans.specs.declared.plan.Link.{Link}
use Rattle.plans.specs.Model.{model_of, linked}
use Rattle.filings.specs.Edits.{is_one_side}
use Rattle.filings.proofs.Staying.{linked_stays}
use Rattle.filings.proofs.Settling.{now_next, stays_filed}
use Rattle.filings.proofs.filing.Filing.link.Goals as goal

pub returns-clause-filed : goal.returns-clause-filed
returns-clause-filed g c =
    let w = g.W.Weight in
    let met = g.met.W.Weight in
    let f = c.args.self.now in
    let a = c.args.first in
    let b = c.args.second in
    let l : Link g.row.W.Denot = record { first = a; second = b; in_service = true; weight = c.args.weight } in
    let done = c.in_ok-link.ensures in
    let settled = c.settle.ensures in
    stays_filed f _ (is_one_side f.kept.sides a b) (linked l (model_of f.plan)) (now_next done.called) settled.kept settled.sides
    (λ fair new marks stay. linked_stays w met.laws met.bounded (model_of f.plan) f.kept.sides fair marks l new stay)
