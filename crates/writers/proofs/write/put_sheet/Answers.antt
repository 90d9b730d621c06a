use Rattle.std.proofs.Common.{rules}
use Rattle.writers.proofs.Puts.{wrote_both}
use Rattle.writers.proofs.write.put_sheet.Goals as goal

pub returns : goal.returns
returns g c =
    let head = rw (c.unit_count.ensures.units, c.link_count.ensures.links) at c.put_head.ensures in
    let codes = rw c.units.ensures at c.put_codes.ensures in
    let links = rw c.links.ensures.value at c.put_links.ensures in
    let sheet = wrote_both head (wrote_both codes links) in
    search rules
