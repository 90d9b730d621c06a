use Rattle.std.proofs.Common.{◌≤◌, false, map, length, set, sym, ap, ◌∙◌, subst, arith, rules}
use Rattle.std.specs.List.{AllWithin}
use Rattle.plans.specs.Divided.{valued}
use Rattle.plans.specs.Marks.{Shows, with_mark}
use Rattle.plans.specs.Model.{changed, marked, model_of, total_of}
use Rattle.plans.specs.Sound.{Joins}
use Rattle.fills.specs.Served.{served}
use Rattle.fills.proofs.Serving.{served_out, served_sound}
use Rattle.solvers.proofs.Working.{joined_two, worked}
use Rattle.answers.proofs.trial.solve_without.Goals as goal

pub put_marks-requires : goal.put_marks-requires
put_marks-requires g c =
    let m = model_of c.args.filing.now.plan in
    let value = c.links-links.ensures.value ∙ ap (λ p. (model_of p).links) c.plan-plan.ensures in
    record {
      size = search rules;
      shows = subst (λ ms. Shows ms m.links) (sym c.fill_without.ensures.same) (subst (Shows c.copy_marks.new.marks) value c.copy_marks.ensures.shows);
    }

pub work_out-requires-clause-some : goal.work_out-requires-clause-some
work_out-requires-clause-some g c =
    let links = c.links-links.result.now in
    let value = c.links-links.ensures.value ∙ ap (λ p. (model_of p).links) c.plan-plan.ensures in
    let joins = subst (λ k. AllWithin (Joins g.W.Weight k) links 0 (length links)) (sym c.unit_count-n.ensures.value) c.links-links.ensures.joins in
    joined_two g.W.Weight c.unit_count-n.result links c.args.link (let e = ap length value in let h = c.requires.link in omega arith) joins

pub returns-clause-tried : goal.returns-clause-tried
returns-clause-tried g c =
    let w = g.W.Weight in
    let n = c.unit_count-n.result in
    let m = model_of c.args.filing.now.plan in
    let links = c.links-links.result.now in
    let marks = set c.copy_marks.new.marks c.args.link 0 in
    let is = c.plan-plan.ensures in
    let units = c.unit_count-n.ensures.units ∙ ap (λ p. length (model_of p).codes) is in
    let value = c.links-links.ensures.value ∙ ap (λ p. (model_of p).links) is in
    let s = c.args.filing.now.plan.sound in
    let joins = subst (λ k. AllWithin (Joins w k) links 0 (length links)) (sym c.unit_count-n.ensures.value) c.links-links.ensures.joins in
    let total : total_of w links ≤ 1000000 = let e = ap (total_of w) value in let a = s.counted in let b = s.limited in omega arith in
    let light = served_sound w marks n links joins total in
    let out = served_out w c.copy_marks.new.marks c.args.link links c.copy_marks.ensures.shows ∙ ap (λ ls. map (valued w) (changed c.args.link (λ l. with_mark l false) ls)) value in
    let e = c.work_out.ensures in
    record {
      answer = worked w g.met.W.Weight.laws (marked c.args.link false m) n units (served w marks links) out light (joined_two w n links c.args.link (let e = ap length value in let h = c.requires.link in omega arith) joins) c.work_out.result c.work_out.new.marks c.work_out.new.entries
          e.new e.mergers (let a = c.requires.room.entries in let k = c.work_out.auto.entries in omega arith) (e.outcome (served w marks links) light (let filled = c.fill_without.ensures.holds total in search rules));
      behind = search rules;
      plan = c.put_marks.ensures.same;
      kept = c.put_marks.ensures.kept;
    }
