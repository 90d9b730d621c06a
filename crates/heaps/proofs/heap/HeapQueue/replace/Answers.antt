use Rattle.std.proofs.Common.{sym, ◌∙◌, arith}
use Rattle.queues.specs.Keys.{no_heavier}
use Rattle.queues.proofs.Orders.{ordered}
use Rattle.heaps.specs.Entries.{before}
use Rattle.heaps.specs.Heaped.{placed, standing}
use Rattle.heaps.proofs.Ranks.{entry_ranks, before_raised}
use Rattle.heaps.proofs.Order.{rising_raised}
use Rattle.heaps.proofs.Changes.{raise_agrees, raise_keys}
use Rattle.heaps.proofs.heap.HeapQueue.replace.Goals as goal

pub write-requires-clause-group : goal.write-requires-clause-group
write-requires-clause-group g c =
    let old = c.requires.sound.kept.agrees.here c.args.at c.requires.within in
    rw (c.requires.heavier old.entry old.is).0 old.group

pub sift_up-requires-clause-kept : goal.sift_up-requires-clause-kept
sift_up-requires-clause-kept g c =
    let q = c.args.self.now in
    let after = c.write.new.self in
    let wrote = c.write.ensures in
    let long = wrote.length in
    let kept = c.requires.sound.kept in
    let room = kept.room in
    let old = kept.agrees.here c.args.at c.requires.within in
    let own = (c.requires.heavier old.entry old.is).0 in
    record {
      room = omega arith;
      table = wrote.table;
      agrees = rw wrote.count (raise_agrees (standing q) (standing after) (placed q.places) (placed after.places) q.count c.args.at old.entry c.args.entry kept.agrees c.requires.within old.is own wrote.entry wrote.place);
    }

pub sift_up-requires-clause-rising : goal.sift_up-requires-clause-rising
sift_up-requires-clause-rising g c =
    let w = g.W.Weight in
    let laws = ordered w.value g.met.W.Weight.laws g.met.W.Weight.bounded in
    let q = c.args.self.now in
    let sound = c.requires.sound in
    let old = sound.kept.agrees.here c.args.at c.requires.within in
    let more = c.requires.heavier old.entry old.is in
    rw c.write.ensures.count (rising_raised (before (no_heavier w)) (standing q) (standing c.write.new.self) q.count sound.order (entry_ranks (no_heavier w) laws) c.args.at old.entry c.args.entry old.is (before_raised (no_heavier w) laws old.entry c.args.entry (sym more.0) more.1) c.write.ensures.entry)

pub returns-clause-keys : goal.returns-clause-keys
returns-clause-keys g c =
    let q = c.args.self.now in
    let after = c.write.new.self in
    let wrote = c.write.ensures in
    let kept = c.requires.sound.kept in
    let old = kept.agrees.here c.args.at c.requires.within in
    let own = (c.requires.heavier old.entry old.is).0 in
    let keys = raise_keys (standing q) (standing after) (placed q.places) (placed after.places) q.count c.args.at old.entry c.args.entry kept.agrees c.requires.within old.is own wrote.entry wrote.place in
    λ k. c.sift_up.ensures.keys k ∙ rw (wrote.count, own) (keys k)
