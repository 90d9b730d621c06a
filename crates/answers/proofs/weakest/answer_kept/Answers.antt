use Rattle.std.proofs.Common.{◌≡◌, ◌-◌, ◌++◌, length, take, drop, ap, ◌∙◌, arith}
use Rattle.std.proofs.lemmas.Grind.{common_steps}
use Rattle.plans.specs.Divided.{weighed}
use Rattle.plans.specs.Model.{model_of}
use Rattle.filings.proofs.Staying.{fair_plan}
use Rattle.answers.proofs.Replies.{part_weighed}
use Rattle.answers.proofs.weakest.answer_kept.Goals as goal

pub returns-clause-figure : goal.returns-clause-figure
returns-clause-figure g c =
    let w = g.W.Weight in
    let f = c.args.filing.now in
    let n = c.unit_count-n.result in
    let is = c.plan-plan.ensures in
    let units = c.unit_count-n.ensures.units ∙ ap (λ p. length (model_of p).codes) is in
    let marks = c.write.new.marks ++ drop n c.args.marks.now in
    let front : take n marks ≡ take n f.kept.sides = grind (arith, common_steps) in
    c.cut.ensures ∙ ap (λ p. weighed w (model_of p) (take (n - 0) marks)) is ∙ part_weighed w g.met.W.Weight.laws (model_of f.plan) (fair_plan f.plan) n units marks f.kept.sides front
