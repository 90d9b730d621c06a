use Rattle.std.proofs.Common.{Some, ◌∙◌, arith}
use Rattle.queues.proofs.Slotted.{waiting_set, update_ap}
use Rattle.queues.proofs.Memory.{unsettled_set}
use Rattle.queues.proofs.list.ListQueue.set_key.Goals as goal

pub returns-clause-key : goal.returns-clause-key
returns-clause-key g c =
    let grown = c.reach_past.new.self in
    let kept = c.reach_past.ensures in
    λ q. waiting_set grown.slots.now grown.reach c.args.group _ kept.reached (omega arith) q ∙ update_ap _ _ c.args.group q (Some c.args.key) kept.same

pub returns-clause-memory : goal.returns-clause-memory
returns-clause-memory g c =
    unsettled_set c.args.self.now.slots.now c.reach_past.new.self.slots.now 64 c.args.group _ (omega arith) (omega arith) c.reach_past.ensures.memory
