use Rattle.std.proofs.Common.{take}
use Rattle.std.specs.List.{flat_map}
use Rattle.sheets.specs.Format.{link_bytes}
use Rattle.writers.specs.Fields.{Wrote}
use Rattle.writers.proofs.pen.Pen.put_links.Given as goal

abbrev pub invariant-loop-link : goal.invariant-loop-link
invariant-loop-link g l = Wrote l.initial.self (flat_map (link_bytes g.W.Weight) (take l.link-index l.links)) l.self
