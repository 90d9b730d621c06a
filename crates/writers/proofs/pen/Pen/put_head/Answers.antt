use Rattle.writers.proofs.Puts.{wrote_both}
use Rattle.writers.proofs.pen.Pen.put_head.Goals as goal

pub returns : goal.returns
returns g c =
    let issue = rw (c.to_le_bytes.ensures, c.number.ensures) at c.put_bytes-2.ensures in
    let kind = rw c.KIND.ensures at c.put_byte.ensures in
    let links = rw c.to_le_bytes-2.ensures at c.put_bytes-3.ensures in
    wrote_both c.put_bytes.ensures (wrote_both issue (wrote_both kind (wrote_both c.put_byte-2.ensures links)))
