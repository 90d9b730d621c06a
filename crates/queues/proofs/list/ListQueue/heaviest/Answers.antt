use Rattle.std.proofs.Common.{◌+◌, sym, ◌∙◌, arith}
use Rattle.queues.specs.Keys.{no_heavier}
use Rattle.queues.specs.Slots.{waiting}
use Rattle.queues.proofs.Orders.{ordered}
use Rattle.queues.proofs.Slotted.{waiting_next, waiting_past}
use Rattle.queues.proofs.Looking.{best_skip, best_keep, best_new}
use Rattle.queues.proofs.list.ListQueue.heaviest.Goals.{in-Some+then-heavier, in-Some+else-heavier, in_default}
use Rattle.queues.proofs.list.ListQueue.heaviest.Goals as goal

pub loop-group-preserved : goal.loop-group-preserved
loop-group-preserved g c =
    let slots = c.args.self.now.slots.now in
    let reach = c.args.self.now.reach in
    let i = c.loop-group.group in
    let slot = c.slot-item.result in
    let best = c.loop-group.best in
    let inv = c.loop-group.invariant in
    let w = g.W.Weight in
    let laws = ordered w.value g.met.W.Weight.laws g.met.W.Weight.bounded in
    elim c.match-slot.branch [
      | in-Some+then-heavier w' ↦ rw w'.best-is (best_new (no_heavier w) laws (waiting slots i) (waiting slots (i + 1)) i (waiting_past slots i) w'.in-Some.key (waiting_next slots reach i slot _ (omega arith) c.loop-group-test.true c.slot-item.is w'.in-Some.is) best inv (sym w'.heavier.ensures ∙ w'.if-heavier.true))
      | in-Some+else-heavier w' ↦ rw w'.best-is (best_keep (no_heavier w) laws (waiting slots i) (waiting slots (i + 1)) i (waiting_past slots i) w'.in-Some.key (waiting_next slots reach i slot _ (omega arith) c.loop-group-test.true c.slot-item.is w'.in-Some.is) best inv (sym w'.heavier.ensures ∙ w'.if-heavier.false))
      | in_default w' ↦ rw w'.best-is (best_skip (no_heavier w) laws (waiting slots i) (waiting slots (i + 1)) i (waiting_past slots i) best inv (waiting_next slots reach i slot _ (omega arith) c.loop-group-test.true c.slot-item.is w'.in_default.is))
    ]
