use Rattle.std.proofs.Common.{refl, arith}
use Rattle.queues.proofs.Slotted.{waiting_set}
use Rattle.queues.proofs.Memory.{unsettled_set}
use Rattle.queues.proofs.list.ListQueue.remove.Goals as goal

pub returns-clause-key : goal.returns-clause-key
returns-clause-key g c =
    waiting_set c.args.self.now.slots.now c.args.self.now.reach c.args.group _ c.requires.reached (omega arith)

pub returns-clause-memory : goal.returns-clause-memory
returns-clause-memory g c =
    let slots = c.args.self.now.slots.now in
    unsettled_set slots slots 64 c.args.group _ (omega arith) (omega arith) (λ place far. refl)
