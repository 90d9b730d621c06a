-- What reading bytes into a plan comes to.
use Rattle.std.specs.Prelude.{◌≡◌, ℕ, List, IfOk, IfErr, Ok, Result}
use Rattle.weights.specs.declared.weight.Weight.{Ghosts}
use Rattle.plans.specs.declared.plan.Plan.{Plan}
use Rattle.plans.specs.Model.{Model, model_of}
use Rattle.sheets.specs.declared.fault.Fault.{Fault}
use Rattle.sheets.specs.declared.issue.Issue.{Issue}
use Rattle.sheets.specs.Fields.{issue_in}
use Rattle.sheets.specs.Faults.{FirstFault, Right}
use Rattle.sheets.specs.Format.{Valid, sheet_of}

pub record Outcome {W : Type 0} (g : Ghosts W) (bs : List ℕ) (before : Plan W g) (r : Result (Unit {0}) Fault) (after : Plan W g) : Type 0 where
  -- a fault is the first in the order of the bytes, and the plan and its lent memory are exactly as before
  pub fault : IfErr r (λ e. FirstFault g bs e × (after ≡ before))
  -- otherwise the sheet is right, and it is that of the plan, in the issue that it names
  pub sheet : IfOk r (λ _. Right g bs × Valid g (issue_in bs) (model_of after) × (bs ≡ sheet_of g (issue_in bs) (model_of after)))
  -- the sheet of any plan within the rules is accepted, in either issue, and gives that plan back
  pub back : (issue : Issue) (m : Model W) → Valid g issue m → bs ≡ sheet_of g issue m → (r ≡ Ok tt) × (model_of after ≡ m)
