use Rattle.std.proofs.Common.{◌∙◌, arith}
use Rattle.heaps.specs.Heaped.{placed, standing}
use Rattle.heaps.proofs.Changes.{room_left, push_agrees}
use Rattle.heaps.proofs.heap.HeapQueue.push.Goals as goal

pub write-requires-clause-room : goal.write-requires-clause-room
write-requires-clause-room g c =
    let q = c.args.self.now in
    let kept = c.requires.sound.kept in
    let room = kept.room in
    let left = room_left (standing q) (placed q.places) q.count c.args.entry kept.agrees c.requires.group c.requires.free in
    omega arith

pub sift_up-requires-clause-kept : goal.sift_up-requires-clause-kept
sift_up-requires-clause-kept g c =
    let q = c.args.self.now in
    let after = c.write.new.self in
    let wrote = c.write.ensures in
    let long = wrote.length in
    let kept = c.requires.sound.kept in
    let room = kept.room in
    record {
      room = omega arith;
      table = wrote.table;
      agrees = push_agrees (standing q) (standing after) (placed q.places) (placed after.places) q.count c.args.entry kept.agrees c.requires.group c.requires.free wrote.entry wrote.place;
    }

pub returns-clause-memory : goal.returns-clause-memory
returns-clause-memory g c =
    let q = c.args.self.now in
    let kept = c.requires.sound.kept in
    let left = room_left (standing q) (placed q.places) q.count c.args.entry kept.agrees c.requires.group c.requires.free in
    λ place far. c.sift_up.ensures.memory place far ∙ c.write.ensures.memory left place far
