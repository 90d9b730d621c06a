-- What every filing keeps, and what a call does to the marks that it keeps.
use Rattle.std.specs.Prelude.{◌≡◌, ℕ, ◌<◌, ◌≤◌, Bool, true, ◌&&◌, List, length, Ok, Err, Result, slice_index, slice_index_or}
use Rattle.weights.specs.declared.weight.Weight.{Ghosts}
use Rattle.cuts.specs.Kinds.{kind_of}
use Rattle.cuts.specs.Divisions.{Weakest}
use Rattle.plans.specs.Model.{Model, model_of}
use Rattle.plans.specs.Divided.{links_of, side_of}
use Rattle.filings.specs.declared.filing.Filing.{Filing}

-- the sides are those of a weakest division of the plan: one byte, 0 or 1, for each of at least two units, and 0 for unit 0
pub record Marks {W : Type 0} (g : Ghosts W) (m : Model W) (sides : List ℕ) : Type 0 where
  pub units : 2 ≤ length m.codes
  pub bytes : (u : ℕ) → u < length m.codes → slice_index sides u < 2
  pub first : slice_index_or sides 0 0 ≡ 0
  pub weakest : Weakest (kind_of g) (length m.codes) (links_of g m) (side_of sides)

-- marks that are kept are those of a weakest division of the plan as it is
abbrev pub Current : {W : Type 0} (g : Ghosts W) → Filing W g → Type 0
Current g f = f.kept.kept ≡ true → Marks g (model_of f.plan) f.kept.sides

-- open gives it, and every call keeps it: there is a side for each unit, and kept marks are those of a weakest division of the plan
-- as it is
pub record Filed {W : Type 0} (g : Ghosts W) (f : Filing W g) : Type 0 where
  pub sides : length f.kept.sides ≡ 64
  pub current : Current g f

-- After an accepted call kept marks stay exactly where `stay` says so, and the sides are as they were.
-- After a refusal the whole filing is exactly as before.
abbrev pub Settled : {W X E : Type 0} {g : Ghosts W} → Bool → Filing W g → Result X E → Filing W g → Type 0
Settled stay before (Ok x) after = (after.kept.kept ≡ (before.kept.kept && stay)) × (after.kept.sides ≡ before.kept.sides)
Settled stay before (Err e) after = after ≡ before
