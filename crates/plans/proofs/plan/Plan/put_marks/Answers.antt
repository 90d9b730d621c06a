use Rattle.std.proofs.Common.{◌≡◌, ◌<◌, eqb, length, ap, refl, subst, arith}
use Rattle.std.proofs.lemmas.List.{get_or-take, length-take-le}
use Rattle.plans.proofs.Marking.{MarkedTo, sound_marked, marked_more, marked_all, remarked_same}
use Rattle.plans.proofs.plan.Plan.put_marks.Goals as goal

pub invariant_of-self : goal.invariant_of-self
invariant_of-self g c =
    let is = c.loop-i.invariant.link_count in
    let n = length-take-le c.args.self.now.link_count c.args.marks.now (omega arith) in
    record { sound = sound_marked c.loop-i.self c.loop-i.i _ c.index-self-i.result (omega arith) }

pub loop-i-preserved : goal.loop-i-preserved
loop-i-preserved g c =
    let p = c.loop-i.self in
    let i = c.loop-i.i in
    let m = c.loop-i.invariant in
    let is = m.link_count in
    let n = length-take-le c.args.self.now.link_count c.args.marks.now (omega arith) in
    let within : i < p.link_count = omega arith in
    let room : i < length p.links.now = let a = p.sound.memory in let h = p.sound.short in omega arith in
    let mark = ap (λ n. eqb n 1) (get_or-take c.args.self.now.link_count c.args.marks.now i 0 (omega arith)) in
    marked_more c.args.marks.now c.args.self.now i _ p _ c.index-self-i.result m room mark refl refl refl refl refl

pub returns : goal.returns
returns g c =
    let marks = c.args.marks.now in
    let before = c.args.self.now in
    let n = length-take-le before.link_count marks (omega arith) in
    let all : c.loop-i.i ≡ before.link_count = omega arith in
    let m = subst (λ i. MarkedTo marks before i c.loop-i.self) all c.loop-i.invariant in
    let r = marked_all marks before c.loop-i.self m in
    record { units = r.unit_count; remarked = r; same = λ shows. remarked_same marks before c.loop-i.self shows r }
