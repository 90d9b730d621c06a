-- What is proved of the format, for every kind of weights that shows the laws.
use Rattle.std.specs.Prelude.{◌≡◌, ℕ, List}
use Rattle.weights.specs.declared.weight.Weight.{Ghosts}
use Rattle.plans.specs.Model.{Model}
use Rattle.sheets.specs.declared.fault.Fault.{Fault}
use Rattle.sheets.specs.declared.issue.Issue.{Issue}
use Rattle.sheets.specs.Format.{sheet_of, Valid}
use Rattle.sheets.specs.Faults.{Right, FirstFault}

module _ {W : Type 0} (g : Ghosts W) where
  -- bytes have at most one first fault
  abbrev pub OneFault : Type 0
  OneFault = (bs : List ℕ) (d e : Fault) → FirstFault g bs d → FirstFault g bs e → d ≡ e

  -- and a right sheet has none
  abbrev pub NoFault : Type 0
  NoFault = (bs : List ℕ) (e : Fault) → Right g bs → FirstFault g bs e → ⊥

  -- the sheet of a plan within the rules is right
  abbrev pub SheetRight : Type 0
  SheetRight = (issue : Issue) (m : Model W) → Valid g issue m → Right g (sheet_of g issue m)

  -- and of no other plan, nor of another issue
  abbrev pub SheetTold : Type 0
  SheetTold =
      (i j : Issue) (m n : Model W) → Valid g i m → Valid g j n → sheet_of g i m ≡ sheet_of g j n → (i ≡ j) × (m ≡ n)
