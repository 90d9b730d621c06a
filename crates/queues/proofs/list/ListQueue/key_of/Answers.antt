use Rattle.std.proofs.Common.{sym, ◌∙◌, arith}
use Rattle.std.proofs.lemmas.Bool.{ltb-true}
use Rattle.std.proofs.lemmas.List.{get_or-take, length-take-le}
use Rattle.queues.proofs.Slotted.{keyed_at, waiting_below}
use Rattle.queues.proofs.list.ListQueue.key_of.Goals as goal

pub returns-clause-key : goal.returns-clause-key
returns-clause-key g c =
    let slots = c.args.self.now.slots.now in
    let reach = c.args.self.now.reach in
    let group = c.args.group in
    let slot = c.in_ok-slot.slot.now in
    let at = c.in_ok-slot.ensures.lookup in
    let size = length-take-le reach slots (omega arith) in
    let below = ltb-true _ _ (sym at.0) in
    sym (waiting_below slots reach group (omega arith) ∙ keyed_at slots group slot (omega arith) (at.1 ∙ get_or-take reach slots group slot (omega arith)))
