use Rattle.std.proofs.Common.{◌≡◌, ◌<◌, false, sym, ◌∙◌, arith, rules, length-set}
use Rattle.scans.proofs.Counts.{marks_less}
use Rattle.scans.proofs.Waiting.{unmarked, marked_raised}
use Rattle.scans.proofs.Raising.{raise_can, raise_gone, raise_light, raise_short, raise_found, keyed_every, notes_every}
use Rattle.scans.proofs.Taking.{taking_none, turn, taking_more}
use Rattle.scans.proofs.scan.scan.Goals as goal
use Rattle.scans.proofs.scan.scan.Goals.{then-raised_to, else-raised_to}

pub loop-v-init : goal.loop-v-init
loop-v-init g c = record {
  sound = c.put_all.ensures.sound;
  units = c.none-found.ensures.units ∙ c.units.ensures;
  len = omega arith;
  marked = c.put_all.ensures.marked;
  taking = λ ls es means. taking_none g.met.W.Weight.laws means _ c.put_all.ensures.waits (c.put_all.ensures.marks (unmarked 64)) (rw c.units.ensures at c.none-found.ensures.notes);
}

pub loop-v-smaller : goal.loop-v-smaller
loop-v-smaller g c =
    let was = c.loop-v.invariant in
    let (below, marked) = was.marked.each c.in-Some.v c.in-Some.field-0-1 c.in-Some.ensures.taken.0.here in
    marks_less c.loop-v.waiting c.in-Some.v c.args.graph.now.groups.now.units below marked

pub loop-v-preserved : goal.loop-v-preserved
loop-v-preserved g c =
    let laws = g.met.W.Weight.laws in
    let was = c.loop-v.invariant in
    let raised = c.loop-w.invariant in
    let taken = c.in-Some.ensures.taken in
    record {
      sound = raised.sound;
      units = raised.units;
      len = length-set _ _ false ∙ was.len;
      marked = raised.marked;
      taking = λ ls es means.
          let taking = was.taking ls es means in
          let over = turn laws means taking c.in-Some.v c.in-Some.field-0-1 taken.0 (omega arith) taken.1 in
          let raising = raised.raising ls es taking.taken over in
          let all : c.loop-w.w ≡ c.args.graph.now.groups.now.units = omega (arith, c.units-w-end.ensures) in
          taking_more _ over (keyed_every laws over all raising) (notes_every laws over all raising _ taking.notes);
    }

pub loop-w-preserved-then-not-waiting-w : goal.loop-w-preserved-then-not-waiting-w
loop-w-preserved-then-not-waiting-w g c =
    let was = c.loop-w.invariant in
    record {
      sound = was.sound;
      units = was.units;
      marked = was.marked;
      raising = λ ls es taken turn. raise_gone g.met.W.Weight.laws turn (omega (arith, c.units-w-end.ensures)) (was.raising ls es taken turn) c.if-not-waiting-w.true;
    }

pub loop-w-preserved-in_default-some_joint : goal.loop-w-preserved-in_default-some_joint
loop-w-preserved-in_default-some_joint g c =
    let was = c.loop-w.invariant in
    record {
      sound = was.sound;
      units = was.units;
      marked = was.marked;
      raising = λ ls es taken turn. raise_light g.met.W.Weight.laws turn (omega (arith, c.units-w-end.ensures)) (was.raising ls es taken turn) c.if-not-waiting-w.false c.in_default-some_joint.ensures;
    }

pub raised_to-requires : goal.raised_to-requires
raised_to-requires g c =
    let laws = g.met.W.Weight.laws in
    let was = c.loop-v.invariant in
    let taken = c.in-Some.ensures.taken in
    record {
      sound = c.loop-w.invariant.sound;
      can = λ ls es means.
          let taking = was.taking ls es means in
          let over = turn laws means taking c.in-Some.v c.in-Some.field-0-1 taken.0 (omega arith) taken.1 in
          raise_can laws over (omega (arith, c.units-w-end.ensures)) (c.loop-w.invariant.raising ls es taking.taken over) c.if-not-waiting-w.false c.in-Some-some_joint.joint c.in-Some-some_joint.ensures;
    }

pub loop-w-preserved : goal.loop-w-preserved
loop-w-preserved g c =
    let was = c.loop-w.invariant in
    let (answer, rise, reached) = c.raised_to.ensures.raised in
    record {
      sound = c.raised_to.ensures.sound;
      units = search rules;
      marked = marked_raised was.marked c.loop-w.w g.W.Weight c.in-Some-some_joint.joint answer rise;
      raising = λ ls es taken turn.
          let raising = was.raising ls es taken turn in
          let below : c.loop-w.w < c.args.graph.now.groups.now.units = omega (arith, c.units-w-end.ensures) in
          elim c.if-raised_to.branch [
            | then-raised_to w ↦ raise_found g.met.W.Weight.laws turn below raising c.if-not-waiting-w.false c.in-Some-some_joint.joint c.in-Some-some_joint.ensures answer rise (sym reached ∙ w.if-raised_to.true) w.note.ensures.notes _ w.found-is
            | else-raised_to w ↦ raise_short g.met.W.Weight.laws turn below raising c.if-not-waiting-w.false c.in-Some-some_joint.joint c.in-Some-some_joint.ensures answer rise (sym reached ∙ w.if-raised_to.false) _ w.found-is
          ];
    }
