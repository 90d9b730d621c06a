use Rattle.std.proofs.Common.{add-one, arith}
use Rattle.sheets.proofs.Seen.{length_fours}
use Rattle.writers.proofs.Puts.{wrote_both}
use Rattle.writers.proofs.pen.Pen.put_weight.Goals as goal

pub put_bytes-requires : goal.put_bytes-requires
put_bytes-requires g c =
    let f = g.W.Weight.nth (g.W.Weight.value c.args.weight) in
    let put = c.loop-i.invariant.put in
    let some = length_fours f c.loop-i.i in
    let all = length_fours f g.W.Weight.PARTS in
    omega arith

pub loop-i-preserved : goal.loop-i-preserved
loop-i-preserved g c = rw add-one (wrote_both c.loop-i.invariant (rw (c.to_le_bytes.ensures, c.part.ensures) at c.put_bytes.ensures))
