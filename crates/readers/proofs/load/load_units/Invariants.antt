use Rattle.std.proofs.Common.{◌≡◌, [], map, take}
use Rattle.plans.specs.Model.{code_of, model_of}
use Rattle.readers.proofs.load.load_units.Given as goal

abbrev pub invariant-loop-unit : goal.invariant-loop-unit
invariant-loop-unit g l = model_of l.plan ≡ record { codes = map code_of (take l.unit-index l.units); links = [] }
