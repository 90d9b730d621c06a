-- A link as plain values, and as a plan has it.
use Rattle.std.specs.Prelude.{ℕ}
use Rattle.weights.specs.declared.weight.Weight.{Ghosts}
use Rattle.plans.specs.declared.plan.Link.{Link}
use Rattle.samples.specs.declared.wire.Wire.{Wire}

-- the first two parts of a weight
abbrev pub parts_of : {W : Type 0} → Ghosts W → W → ℕ × ℕ
parts_of g w = (g.nth (g.value w) 0, g.nth (g.value w) 1)

-- a plan's link as a wire
abbrev pub wire_of : {W : Type 0} → Ghosts W → Link W → Wire
wire_of g l = record { ends = (l.first, l.second); serves = l.in_service; parts = parts_of g l.weight }
