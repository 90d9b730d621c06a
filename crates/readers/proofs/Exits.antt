-- The ways out of a run of fields.
use Rattle.std.proofs.Common.{◌≡◌, ℕ, List, ◌∷◌, ◌++◌, Some, Ok, Err, Result, IsOk, sym, refl, subst}
use Rattle.std.specs.Result.{IsErrAnd}
use Rattle.weights.specs.declared.weight.Weight.{Ghosts}
use Rattle.sheets.specs.declared.fault.Fault.{Fault}
use Rattle.sheets.specs.Fields.{Field}
use Rattle.sheets.specs.Faults.{fault_of, Faultless, FirstIn}
use Rattle.sheets.proofs.Firsts.{no_fault_lem}
use Rattle.readers.specs.declared.cursor.Cursor.{Cursor}
use Rattle.readers.specs.Records.{Reads}

-- a fault is passed up
pub broke : {W : Type 0} {g : Ghosts W} {bs : List ℕ} {X : Type 0} {fs : List Field} {r : Result X Fault} {a : Cursor} {at : ℕ} {P : X → Type 0} {e : Fault}
    → IsErrAnd r (λ d. d ≡ e) → FirstIn g bs fs e → Reads g bs fs r a at P
broke {r = Ok x} is h = absurd is
broke {g = g} {bs = bs} {fs = fs} {r = Err d} is h = record { taken = subst (FirstIn g bs fs) (sym is) h; moved = tt }

-- the same where the first fault is at a field that was read alone
pub stopped : {W : Type 0} {g : Ghosts W} {bs : List ℕ} {X : Type 0} {r : Result X Fault} {a : Cursor} {at : ℕ} {P : X → Type 0} {e : Fault} (before : List Field) (f : Field) (after : List Field)
    → IsErrAnd r (λ d. d ≡ e) → Faultless g bs before → fault_of g bs f ≡ Some e → Reads g bs (before ++ (f ∷ after)) r a at P
stopped before f after is clear h = broke is (record { before = before; field = f; after = after; order = refl; clear = clear; fault = h })

-- fields without a fault are read
pub never_refused : {W : Type 0} (g : Ghosts W) (bs : List ℕ) {X : Type 0} (fs : List Field) {r : Result X Fault} {a : Cursor} {at : ℕ} {P : X → Type 0} → Faultless g bs fs → Reads g bs fs r a at P → IsOk r
never_refused g bs fs {r = Ok x} clear h = refl
never_refused g bs fs {r = Err e} clear h = absurd (no_fault_lem g bs fs e clear h.taken)
