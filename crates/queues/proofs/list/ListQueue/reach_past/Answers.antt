use Rattle.std.proofs.Common.{rules, arith, ◌≡◌, ℕ, ◌+◌, ◌-◌, ◌≤◌, List, length, take, drop, ◌∙◌, length-drop}
use Rattle.std.proofs.lemmas.List.{length-take-le}
use Rattle.queues.proofs.Slotted.{emptied_past}
use Rattle.queues.proofs.Memory.{unsettled_part}
use Rattle.queues.proofs.list.ListQueue.reach_past.Goals as goal

-- how many places the part has
part : {X : Type 0} (xs : List X) (from k : ℕ) → from + k ≤ length xs → length (take k (drop from xs)) ≡ k
part xs from k room = length-take-le k (drop from xs) (omega (arith, length-drop from xs))

pub returns-then-group-self-clause-same : goal.returns-then-group-self-clause-same
returns-then-group-self-clause-same g c =
    let slots = c.args.self.now.slots.now in
    let reach = c.args.self.now.reach in
    let size = part slots reach (c.args.group + 1 - reach) (omega arith) in
    let bare = c.fill.ensures.after (λ y h. search rules) in
    rw (bare, size) (emptied_past slots _ reach (c.args.group + 1 - reach) (c.args.group + 1) c.empty.result c.empty.ensures (omega arith) (omega arith))

pub returns-then-group-self-clause-memory : goal.returns-then-group-self-clause-memory
returns-then-group-self-clause-memory g c =
    let slots = c.args.self.now.slots.now in
    let reach = c.args.self.now.reach in
    unsettled_part reach (c.args.group + 1 - reach) slots c.fill.new.self 64 (omega arith) (c.fill.ensures.len ∙ part slots reach _ (omega arith)) (omega arith)
