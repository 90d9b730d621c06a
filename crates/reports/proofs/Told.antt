-- What is told of a first fault, where there is one and where there is none.
use Rattle.std.proofs.Common.{◌≡◌, ℕ, ◌<◌, ◌≤◌, ◌^◌, List, Result, Ok, Err, IfOk, subst, sym}
use Rattle.weights.specs.Laws.{Exact, limit}
use Rattle.weights.specs.declared.weight.Weight.{Ghosts}
use Rattle.plans.specs.Model.{Model}
use Rattle.sheets.specs.declared.issue.Issue.{Issue}
use Rattle.sheets.specs.Fields.{fields}
use Rattle.sheets.specs.Faults.{Right}
use Rattle.sheets.specs.Format.{sheet_of, Valid}
use Rattle.sheets.proofs.Firsts.{no_fault_lem}
use Rattle.sheets.proofs.Rightly.{sheet_right}
use Rattle.reports.specs.Lines.{TellsFault}

-- what holds of every value holds of a result's
pub told_of_all : {X E : Type 0} (P : X → Type 0) (r : Result X E) → ((x : X) → P x) → IfOk r P
told_of_all P (Ok x) h = h x
told_of_all P (Err e) h = tt

-- what follows from a fact of a result's value
pub told_anew : {X E : Type 0} (P Q : X → Type 0) (r : Result X E) → IfOk r P → ((x : X) → P x → Q x) → IfOk r Q
told_anew P Q (Ok x) p h = h x p
told_anew P Q (Err e) p h = tt

-- a plan's sheet has no first fault
pub told_of_right : {W : Type 0} (g : Ghosts W) → Exact g.PARTS g.of g.nth → ((x : W) → g.size (g.value x) ≤ limit) → ((x : W) (j : ℕ) → g.nth (g.value x) j < 2 ^ 32)
    → (bs text : List ℕ) (i : Issue) (m : Model W) → bs ≡ sheet_of g i m → Valid g i m → TellsFault g bs text
told_of_right g exact bounded narrow bs text i m e valid fault first =
    let right : Right g bs = subst (λ (b : List ℕ). Right g b) (sym e) (sheet_right g exact bounded narrow i m valid) in
    absurd (no_fault_lem g bs (fields g bs) fault right first)
