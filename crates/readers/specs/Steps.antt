-- Where a cursor stands after a field.
use Rattle.std.specs.Prelude.{◌≡◌, ℕ, ◌+◌, List, IfOk, Option, Result}
use Rattle.refusals.specs.declared.Refusal.{Refusal}
use Rattle.sheets.specs.declared.fault.Fault.{Fault}
use Rattle.sheets.specs.declared.fault.Part.{Part}
use Rattle.readers.specs.declared.cursor.Cursor.{Cursor}
use Rattle.readers.specs.Reading.{Taken}

-- at an index of these bytes
pub record Stands (bs : List ℕ) (at : ℕ) (c : Cursor) : Type 0 where
  pub bytes : c.bytes.now ≡ bs
  pub place : c.at ≡ at

-- One field of n bytes was read, in a part of the sheet: a value as P says, past which the cursor then stands, or the
-- field's fault. Either way the cursor is then in that part.
pub record Took {X : Type 0} (before : Cursor) (part : Part) (n : ℕ) (verdict : Option Refusal) (r : Result X Fault) (after : Cursor) (P : X → Type 0) : Type 0 where
  pub taken : Taken before.bytes.now before.at n part verdict r P
  pub moved : IfOk r (λ _. Stands before.bytes.now (before.at + n) after)
  pub within : after.part ≡ part
