use Rattle.std.proofs.Common.{◌≤◌, map, length, sym, ap, ◌∙◌, subst, arith, rules}
use Rattle.std.specs.List.{AllWithin}
use Rattle.plans.specs.Divided.{valued}
use Rattle.plans.specs.Model.{model_of, total_of}
use Rattle.plans.specs.Sound.{Joins}
use Rattle.fills.specs.Served.{served}
use Rattle.fills.proofs.Serving.{served_own, served_sound}
use Rattle.solvers.proofs.Working.{worked}
use Rattle.solvers.proofs.solve.solve.Goals as goal

pub returns-clause-answer : goal.returns-clause-answer
returns-clause-answer g c =
    let w = g.W.Weight in
    let p = c.args.plan.now in
    let n = c.unit_count-n.result in
    let links = c.links-links.result.now in
    let marks = c.copy_marks.new.marks in
    let joins = subst (λ k. AllWithin (Joins w k) links 0 (length links)) (sym c.unit_count-n.ensures.value) c.links-links.ensures.joins in
    let total : total_of w links ≤ 1000000 = let e = ap (total_of w) c.links-links.ensures.value in let a = p.sound.counted in let b = p.sound.limited in omega arith in
    let light = served_sound w marks n links joins total in
    let own = served_own w marks links c.copy_marks.ensures.shows ∙ ap (map (valued w)) c.links-links.ensures.value in
    let e = c.work_out.ensures in
    worked w g.met.W.Weight.laws (model_of p) n c.unit_count-n.ensures.units (served w marks links) own light (let h = c.requires.some in omega arith) c.work_out.result c.work_out.new.marks c.work_out.new.entries
    e.new e.mergers (let a = c.requires.room.entries in let k = c.work_out.auto.entries in omega arith) (e.outcome (served w marks links) light (let filled = c.fill.ensures.holds total in search rules))
