-- The number of each ground. It stands here alone; contracts and programs take it from here.
use Rattle.std.specs.Prelude.{ℕ}
use Rattle.cuts.specs.declared.ground.Ground.{Ground}
use Rattle.cuts.specs.declared.ground.Ground.TheVariants.{Heavy, Unbalanced, Triangle, Neighbourhood, Scan}

abbrev pub ground_number : Ground → ℕ
ground_number Heavy = 1
ground_number Unbalanced = 2
ground_number Triangle = 3
ground_number Neighbourhood = 4
ground_number Scan = 5
