use Rattle.std.proofs.Common.{◌≡◌, ◌≤◌, true, length, sym, ap, ◌∙◌, subst, arith}
use Rattle.plans.specs.Model.{model_of}
use Rattle.solvers.specs.Answers.{WorkedOut}
use Rattle.plans.proofs.Linking.{unit_size}
use Rattle.filings.proofs.Staying.{fair_plan}
use Rattle.answers.proofs.Outcomes.{outcome_marks}
use Rattle.answers.proofs.Replies.{kept_least, weakest_accepted}
use Rattle.answers.proofs.weakest.weakest.Goals as goal

pub returns-then-is_kept-clause-verdict : goal.returns-then-is_kept-clause-verdict
returns-then-is_kept-clause-verdict g c =
    let units = c.unit_count-n.ensures.units ∙ ap (λ p. length (model_of p).codes) c.plan.ensures in
    weakest_accepted (model_of c.args.filing.now.plan) c.unit_count-n.result units _ _ _ c.if-n-lt2.false c.in_ok-check_room.ensures.enough

pub returns-then-is_kept-clause-least : goal.returns-then-is_kept-clause-least
returns-then-is_kept-clause-least g c current =
    let f = c.args.filing.now in
    let kept : f.kept.kept ≡ true = sym (ap (λ k. k.kept) c.kept.ensures) ∙ sym c.is_kept.ensures ∙ c.if-is_kept.true in
    let e = c.answer_kept.ensures in
    kept_least g.W.Weight (model_of f.plan) _ _ g.met.W.Weight.laws (fair_plan f.plan) f.kept.sides (current kept) e.front e.figure

pub returns-then-is_kept-clause-units : goal.returns-then-is_kept-clause-units
returns-then-is_kept-clause-units g c =
    let units = c.unit_count-n.ensures.units ∙ ap (λ p. length (model_of p).codes) c.plan.ensures in
    let size = unit_size c.args.filing.now.plan in
    let room = c.in_ok-check_room.ensures.room.0 in
    omega arith

pub keep-requires : goal.keep-requires
keep-requires g c =
    let w = g.W.Weight in
    let f = c.args.filing.now in
    let m = model_of f.plan in
    let units = c.unit_count-n.ensures.units ∙ ap (λ p. length (model_of p).codes) c.plan.ensures in
    let e = c.solve-answer.ensures in
    let two : 2 ≤ length m.codes = let h = c.if-n-lt2.false in omega arith in
    let answer : WorkedOut w m c.solve-answer.result c.solve-answer.new.marks c.solve-answer.new.entries = subst (λ p. WorkedOut w (model_of p) c.solve-answer.result c.solve-answer.new.marks c.solve-answer.new.entries) c.plan-2.ensures e.answer in
    record {
      marks = outcome_marks w g.met.W.Weight.laws m (fair_plan f.plan) two _ c.solve-answer.new.marks _ _ answer.allowed;
      size = let u = unit_size f.plan in let r = c.in_ok-check_room.ensures.room.0 in let k = c.solve-answer.auto.marks in omega arith;
    }

pub returns-clause-verdict : goal.returns-clause-verdict
returns-clause-verdict g c =
    let units = c.unit_count-n.ensures.units ∙ ap (λ p. length (model_of p).codes) c.plan.ensures in
    weakest_accepted (model_of c.args.filing.now.plan) c.unit_count-n.result units _ _ _ c.if-n-lt2.false c.in_ok-check_room.ensures.enough

pub returns-clause-units : goal.returns-clause-units
returns-clause-units g c =
    let units = c.unit_count-n.ensures.units ∙ ap (λ p. length (model_of p).codes) c.plan.ensures in
    let size = unit_size c.args.filing.now.plan in
    let room = c.in_ok-check_room.ensures.room.0 in
    omega arith
