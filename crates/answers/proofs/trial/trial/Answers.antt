use Rattle.std.proofs.Common.{length, ap, ◌∙◌, arith}
use Rattle.plans.specs.Model.{model_of}
use Rattle.answers.proofs.Replies.{promised_least, trial_accepted}
use Rattle.answers.proofs.trial.trial.Goals as goal

pub returns-clause-verdict : goal.returns-clause-verdict
returns-clause-verdict g c =
    let is = c.plan-plan.ensures in
    let units = c.unit_count-n.ensures.units ∙ ap (λ p. length (model_of p).codes) is in
    let links = c.link_count.ensures.links ∙ ap (λ p. length (model_of p).links) is in
    trial_accepted (model_of c.args.filing.now.plan) c.unit_count-n.result units _ _ _ c.args.link (let h = c.if-link-link_count.false in omega arith) c.in_ok-check_room.ensures.enough

pub returns-clause-least : goal.returns-clause-least
returns-clause-least g c = promised_least g.W.Weight _ _ _ _ c.solve_without.ensures.tried.answer.promised
