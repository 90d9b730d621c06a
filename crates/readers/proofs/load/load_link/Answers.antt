use Rattle.std.proofs.Common.{false, length, ap, ◌∙◌}
use Rattle.plans.specs.Model.{linked, marked, model_of}
use Rattle.plans.specs.Calls.{link_verdict, mark_verdict}
use Rattle.readers.proofs.Loading.{does, answers, served, link_fine, mark_fine, out_of_service}
use Rattle.readers.proofs.load.load_link.Goals as goal

pub returns-then-not-link : goal.returns-then-not-link
returns-then-not-link g c =
    let w = g.W.Weight in
    let m = model_of c.args.plan.now in
    let l = c.args.link in
    let v = link_verdict m w l.first l.second l.weight in
    let fine = link_fine w m l c.requires.joins c.requires.room c.requires.limit in
    let p = c.link.new.self in
    let k = c.unwrap-at.result in
    let now = does v (length m.links) (linked (served w m l) m) c.args.plan.now p c.link.result fine c.link.ensures.called in
    let at = answers v (length m.links) (linked (served w m l) m) c.args.plan.now p c.link.result fine c.link.ensures.called k c.unwrap-at.ensures in
    let can = ap (λ x. mark_verdict x k 0) now ∙ (ap (λ n. mark_verdict (linked (served w m l) m) n 0) at ∙ mark_fine w m l) in
    does (mark_verdict (model_of p) k 0) tt (marked k false (model_of p)) p c.mark.new.self c.mark.result can c.mark.ensures.called
    ∙ (ap (λ x. marked k false x) now ∙ (ap (λ n. marked n false (linked (served w m l) m)) at ∙ out_of_service w m l c.if-not-link.true))
