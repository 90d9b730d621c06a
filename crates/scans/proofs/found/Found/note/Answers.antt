use Rattle.std.proofs.Common.{arith}
use Rattle.scans.proofs.Noting.{noted_not, two_classes, noted_new}
use Rattle.scans.proofs.found.Found.note.Goals as goal
use Rattle.scans.proofs.found.Found.note.Goals.{then-of_a-of_b-via-then-of_a-of_b, then-of_a-of_b-via-else-of_a-of_b+then-left-lt2}

pub returns-then-of_a-of_b-clause-notes : goal.returns-then-of_a-of_b-clause-notes
returns-then-of_a-of_b-clause-notes c n before notes =
    let of-a = c.of-of_a.ensures.value in
    let of-b = c.of-of_b.ensures.value in
    elim c.then-of_a-of_b.branch [
      | then-of_a-of_b-via-then-of_a-of_b w ↦ noted_not notes c.requires.a c.requires.b of-a of-b w.if-of_a-of_b.true
      | then-of_a-of_b-via-else-of_a-of_b+then-left-lt2 w ↦ (let least = two_classes notes c.requires.a c.requires.b of-a of-b w.if-of_a-of_b.false in absurd (omega arith))
    ]

pub returns-clause-notes : goal.returns-clause-notes
returns-clause-notes c n before notes =
    noted_new notes c.requires.a c.requires.b c.of-of_a.ensures.value c.of-of_b.ensures.value c.if-of_a-of_b.false c.push.new.self c.min.ensures c.max.ensures c.join.ensures.tracks c.push.ensures.classes c.push.ensures.count c.push.ensures.pairs
