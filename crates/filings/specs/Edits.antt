-- Which edits kept marks outlive.
use Rattle.std.specs.Prelude.{ℕ, zero, suc, ◌<◌, Bool, true, false, cond, not, ◌||◌, List, [], ◌∷◌, ◌==◌, slice_index}
use Rattle.weights.specs.declared.weight.Weight.{Ghosts}
use Rattle.plans.specs.declared.plan.Link.{Link as Joint}
use Rattle.plans.specs.Model.{Model}
use Rattle.filings.specs.declared.kept.Change.{Change}
use Rattle.filings.specs.declared.kept.Change.TheVariants.{Equal, Heavier, Lighter}
use Rattle.filings.specs.declared.kept.Ends.{Ends}
use Rattle.filings.specs.declared.kept.Edit.{Edit}
use Rattle.filings.specs.declared.kept.Edit.TheVariants.{Enter, Read, Recode, Link, Out, In, Reweigh}

-- both ends of the edit's link are units that a plan can have
abbrev pub Within : Edit → Type 0
Within Enter = Unit {0}
Within Read = Unit {0}
Within Recode = Unit {0}
Within (Link a b) = (a < 64) × (b < 64)
Within (Out l) = (l.first < 64) × (l.second < 64)
Within (In l) = (l.first < 64) × (l.second < 64)
Within (Reweigh l c) = (l.first < 64) × (l.second < 64)

-- both units are on one side
abbrev pub is_one_side : List ℕ → ℕ → ℕ → Bool
is_one_side sides a b = slice_index sides a == slice_index sides b

-- a new weight that keeps marks whose link is in service: equal, heavier on one side, or lighter across
abbrev pub suits : Bool → Change → Bool
suits one Equal = true
suits one Heavier = one
suits one Lighter = not one

-- the whole table: kept marks stay exactly when
abbrev pub outlives : List ℕ → Edit → Bool
outlives sides Enter = false
outlives sides Read = false
outlives sides Recode = true
outlives sides (Link a b) = is_one_side sides a b
outlives sides (Out l) = not l.in_service || not (is_one_side sides l.first l.second)
outlives sides (In l) = l.in_service || is_one_side sides l.first l.second
outlives sides (Reweigh l c) = not l.in_service || suits (is_one_side sides l.first l.second) c

-- how a new weight compares with the old one, by the order of the kind
abbrev pub change_of : {W : Type 0} → Ghosts W → W → W → Change
change_of g old new = cond (g.le (g.value old) (g.value new)) (cond (g.le (g.value new) (g.value old)) Equal Heavier) Lighter

-- an accepted call that edits a plan, with its arguments
pub data Call (W : Type 0) : Type 0 where
  entering : Call W
  recoding : Call W
  linking : ℕ → ℕ → Call W
  striking : ℕ → Call W
  reweighing : ℕ → W → Call W
  marking : ℕ → ℕ → Call W

-- what an edit looks at of a link
abbrev pub ends_of : {W : Type 0} → Joint W → Ends
ends_of l = record { first = l.first; second = l.second; in_service = l.in_service }

-- the edit that a call makes of a link, by the link as it was: struck, marked 0 or 1, or given another weight
abbrev pub strike_of : {W : Type 0} → Joint W → Edit
strike_of l = Out (ends_of l)

abbrev pub mark_of : {W : Type 0} → ℕ → Joint W → Edit
mark_of b l = cond (b == 0) (Out (ends_of l)) (In (ends_of l))

abbrev pub reweigh_of : {W : Type 0} → Ghosts W → W → Joint W → Edit
reweigh_of g w l = Reweigh (ends_of l) (change_of g l.weight w)

-- whether marks outlive an edit of link number k
abbrev pub outlive_at : {W : Type 0} → List ℕ → (Joint W → Edit) → List (Joint W) → ℕ → Bool
outlive_at sides edit [] k = false
outlive_at sides edit (l ∷ ls) zero = outlives sides (edit l)
outlive_at sides edit (l ∷ ls) (suc k) = outlive_at sides edit ls k

-- whether the kept marks of a plan stay by a call
abbrev pub stays : {W : Type 0} → Ghosts W → Model W → List ℕ → Call W → Bool
stays g m sides entering = outlives sides Enter
stays g m sides recoding = outlives sides Recode
stays g m sides (linking a b) = outlives sides (Link a b)
stays g m sides (striking k) = outlive_at sides strike_of m.links k
stays g m sides (reweighing k w) = outlive_at sides (reweigh_of g w) m.links k
stays g m sides (marking k b) = outlive_at sides (mark_of b) m.links k
