use Rattle.std.proofs.Common.{rules, ◌≡◌, cond}
use Rattle.writers.proofs.Puts.{wrote_both}
use Rattle.writers.proofs.pen.Pen.put_link.Goals as goal

pub returns : goal.returns
returns g c =
    let mark : c.from.result ≡ cond c.args.link.in_service 1 0 = search rules in
    wrote_both c.put_byte.ensures (wrote_both c.put_byte-2.ensures (wrote_both (rw mark at c.put_byte-3.ensures) c.put_weight.ensures))
