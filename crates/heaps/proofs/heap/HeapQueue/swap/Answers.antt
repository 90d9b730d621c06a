use Rattle.std.proofs.Common.{◌≡◌, ◌∙◌, arith}
use Rattle.heaps.specs.Heaped.{placed, standing}
use Rattle.heaps.proofs.Tables.{swap_keys}
use Rattle.heaps.proofs.Changes.{agrees_at, swap_done, swap_agrees}
use Rattle.heaps.proofs.heap.HeapQueue.swap.Goals as goal

pub write-requires-clause-group : goal.write-requires-clause-group
write-requires-clause-group g c =
    let q = c.args.self.now in
    (agrees_at (standing q) (placed q.places) q.count c.requires.kept.agrees c.args.j c.entry-b.result c.requires.within.1 c.entry-b.ensures).0

pub write-requires-2-clause-group : goal.write-requires-2-clause-group
write-requires-2-clause-group g c =
    let q = c.args.self.now in
    (agrees_at (standing q) (placed q.places) q.count c.requires.kept.agrees c.args.i c.entry-a.result c.requires.within.0 c.entry-a.ensures).0

pub returns-clause-kept : goal.returns-clause-kept
returns-clause-kept g c =
    let q = c.args.self.now in
    let q₁ = c.write.new.self in
    let q₂ = c.write-2.new.self in
    let kept = c.requires.kept in
    let w₁ = c.write.ensures in
    let w₂ = c.write-2.ensures in
    let room = kept.room in
    let l₁ = w₁.length in
    let l₂ = w₂.length in
    let count : q₂.count ≡ q.count = w₂.count ∙ w₁.count in
    record {
      room = omega arith;
      table = w₂.table;
      agrees = rw count (swap_agrees (standing q) (standing q₁) (standing q₂) (placed q.places) (placed q₁.places) (placed q₂.places) q.count c.args.i c.args.j c.entry-a.result c.entry-b.result kept.agrees c.requires.within.0 c.requires.within.1 c.entry-a.ensures c.entry-b.ensures w₁.entry w₁.place w₂.entry w₂.place);
    }

pub returns-clause-keys : goal.returns-clause-keys
returns-clause-keys g c =
    let q = c.args.self.now in
    let q₁ = c.write.new.self in
    let q₂ = c.write-2.new.self in
    let kept = c.requires.kept in
    let w₁ = c.write.ensures in
    let w₂ = c.write-2.ensures in
    let count : q₂.count ≡ q.count = w₂.count ∙ w₁.count in
    let agrees = rw count at (returns-clause-kept g c).agrees in
    let done = swap_done (standing q) (standing q₁) (standing q₂) (placed q.places) (placed q₁.places) (placed q₂.places) q.count c.args.i c.args.j c.entry-a.result c.entry-b.result kept.agrees c.requires.within.0 c.requires.within.1 c.entry-a.ensures c.entry-b.ensures w₁.entry w₁.place w₂.entry w₂.place in
    rw count (swap_keys (standing q) (standing q₂) (placed q.places) (placed q₂.places) q.count c.args.i c.args.j c.requires.within.0 c.requires.within.1 kept.agrees agrees done)
