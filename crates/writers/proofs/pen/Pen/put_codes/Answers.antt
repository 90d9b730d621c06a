use Rattle.std.proofs.lemmas.List.{take_all}
use Rattle.std.proofs.lemmas.List.Folds.{flat_map-map}
use Rattle.plans.specs.Model.{code_of}
use Rattle.sheets.specs.Format.{code_field}
use Rattle.writers.proofs.Steps.{room_next, put_next}
use Rattle.writers.proofs.pen.Pen.put_codes.Goals as goal

pub put_code-requires : goal.put_code-requires
put_code-requires c =
    room_next (λ u. code_field c.args.issue (code_of u)) c.args.units.now c.loop-unit.unit-index c.unit-item.is c.loop-unit-test.true c.loop-unit.invariant (rw flat_map-map at c.requires)

pub loop-unit-preserved : goal.loop-unit-preserved
loop-unit-preserved c = put_next (λ u. code_field c.args.issue (code_of u)) c.args.units.now c.loop-unit.unit-index c.unit-item.is c.loop-unit-test.true c.loop-unit.invariant c.put_code.ensures

pub returns : goal.returns
returns c = rw flat_map-map (rw (take_all c.loop-unit.unit-index c.args.units.now c.loop-unit-test.false) at c.loop-unit.invariant)
