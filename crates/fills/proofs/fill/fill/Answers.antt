use Rattle.std.proofs.Common.{◌≡◌, ◌+◌, ◌*◌, [], ◌∷◌, ◌++◌, length, take, drop, sym, ◌∙◌, subst, arith, length-append}
use Rattle.std.proofs.lemmas.List.{take_all}
use Rattle.std.proofs.lemmas.Slice.Zip.{zip_turn, zip_end}
use Rattle.std.specs.List.{AllWithin}
use Rattle.cuts.specs.Kinds.{kind_of}
use Rattle.cuts.specs.Links.{Sound}
use Rattle.plans.specs.Sound.{Joins}
use Rattle.tables.specs.Meaning.{Holds}
use Rattle.fills.specs.Served.{served}
use Rattle.fills.proofs.Serving.{front_sound, holds_skip, served_on}
use Rattle.fills.proofs.fill.fill.Goals as goal

pub loop-link-preserved-then-mark-ne1 : goal.loop-link-preserved-then-mark-ne1
loop-link-preserved-then-mark-ne1 g c =
    let turn = zip_turn c.args.links.now c.args.marks.now c.loop-link.yielded _ _ c.next.new.self _ (cc) (cc) c.loop-link.yielded_by (c.in-Some.link, c.in-Some.mark) c.in-Some.is c.next.ensures.steps in
    let more : length (c.loop-link.yielded ++ ((c.in-Some.link, c.in-Some.mark) ∷ [])) ≡ length c.loop-link.yielded + 1 = simp length-append in
    let before = c.loop-link.invariant in
    record {
      memory = before.memory;
      holds = rw more (λ total. holds_skip g.W.Weight c.loop-link.table.units c.args.marks.now c.args.links.now (length c.loop-link.yielded) c.loop-link.table.weights.now turn.0 (λ on. c.if-mark-ne1.true (turn.3 0 ∙ on)) (before.holds total));
      rest = before.rest;
    }

pub add_link-requires : goal.add_link-requires
add_link-requires g c =
    let l = c.in-Some.link.now in
    let turn = zip_turn c.args.links.now c.args.marks.now c.loop-link.yielded _ _ c.next.new.self _ (cc) (cc) c.loop-link.yielded_by (c.in-Some.link, c.in-Some.mark) c.in-Some.is c.next.ensures.steps in
    let here = subst (Joins g.W.Weight c.args.table.now.units) (sym (turn.2 l)) (c.requires.ends (length c.loop-link.yielded) l (omega arith) turn.0) in
    let same = c.loop-link.invariant.memory.0 ∙ c.clear.ensures.memory.0 in
    record {
      row = let h = here.first in omega arith;
      column = let h = here.second in omega arith;
    }

pub loop-link-preserved : goal.loop-link-preserved
loop-link-preserved g c =
    let w = g.W.Weight in
    let n = c.loop-link.table.units in
    let i = length c.loop-link.yielded in
    let l = c.in-Some.link.now in
    let links = c.args.links.now in
    let marks = c.args.marks.now in
    let before = c.loop-link.invariant in
    let added = c.add_link.ensures in
    let turn = zip_turn links marks c.loop-link.yielded _ _ c.next.new.self _ (cc) (cc) c.loop-link.yielded_by (c.in-Some.link, c.in-Some.mark) c.in-Some.is c.next.ensures.steps in
    let more : length (c.loop-link.yielded ++ ((c.in-Some.link, c.in-Some.mark) ∷ [])) ≡ i + 1 = simp length-append in
    let ends = subst (λ k. AllWithin (Joins w k) links 0 (length links)) (sym (before.memory.0 ∙ c.clear.ensures.memory.0)) c.requires.ends in
    let here = subst (Joins w n) (sym (turn.2 l)) (ends i l (omega arith) turn.0) in
    let on = served_on w marks links i l turn.0 (turn.2 l) (sym (turn.3 0) ∙ c.if-mark-ne1.false) in
    record {
      memory = (added.memory.0 ∙ before.memory.0, added.memory.1 ∙ before.memory.1);
      holds = rw more (λ total. subst (λ ls. Holds w c.add_link.new.self.units ls [] c.add_link.new.self.weights.now) (sym on)
          (added.holds (served w marks (take i links)) here.apart (before.holds total) (subst (Sound (kind_of w) n) on (front_sound w marks n links (i + 1) ends total))));
      rest = subst (λ k. drop (k * k) c.add_link.new.self.weights.now ≡ drop (k * k) c.loop-link.table.weights.now) before.memory.0 added.rest ∙ before.rest;
    }

pub returns-clause-holds : goal.returns-clause-holds
returns-clause-holds g c = λ total.
    let all = zip_end c.args.links.now c.args.marks.now c.loop-link.yielded _ _ c.next.new.self _ (cc) (cc) c.loop-link.yielded_by c.in-None.is c.next.ensures.steps in
    subst (λ ls. Holds g.W.Weight c.loop-link.table.units (served g.W.Weight c.args.marks.now ls) [] c.loop-link.table.weights.now) (take_all (length c.loop-link.yielded) c.args.links.now (omega (arith, all))) (c.loop-link.invariant.holds total)
