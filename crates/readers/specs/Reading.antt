-- What reading one field gives.
use Rattle.std.specs.Prelude.{◌≡◌, ℕ, List, Some, None, Option, Result, MatchResult}
use Rattle.refusals.specs.declared.Refusal.{Refusal}
use Rattle.sheets.specs.declared.fault.Fault.{Fault}
use Rattle.sheets.specs.declared.fault.Part.{Part}
use Rattle.sheets.specs.Faults.{fault_at}

-- a value where the field has no fault, which is then as P says, and else the field's fault
abbrev pub Taken : {X : Type 0} → List ℕ → ℕ → ℕ → Part → Option Refusal → Result X Fault → (X → Type 0) → Type 0
Taken bs at n part verdict r P =
    MatchResult r (λ x. (fault_at bs at n part verdict ≡ None) × P x) (λ e. fault_at bs at n part verdict ≡ Some e)
