-- The marks of a plan's links: 1 for a link in service, 0 for one that is out.
use Rattle.std.specs.Prelude.{◌≡◌, ℕ, ◌<◌, ◌≤◌, Bool, cond, List, length, ◌==◌, slice_index, slice_index_or}
use Rattle.weights.specs.declared.weight.Weight.{Ghosts}
use Rattle.plans.specs.declared.plan.Link.{Link}
use Rattle.plans.specs.declared.plan.Plan.{Plan}

abbrev pub mark_of : {W : Type 0} → Link W → ℕ
mark_of l = cond l.in_service 1 0

-- the link put in service or out
abbrev pub with_mark : {W : Type 0} → Link W → Bool → Link W
with_mark l b = record { first = l.first; second = l.second; in_service = b; weight = l.weight }

-- the table begins with the marks of the links
abbrev pub Shows : {W : Type 0} → List ℕ → List (Link W) → Type 0
Shows {W} marks links = (i : ℕ) (d : Link W) → i < length links → slice_index marks i ≡ mark_of (slice_index_or links i d)

-- the plan and all of its lent memory are as before
pub record Untouched {W : Type 0} {g : Ghosts W} (before after : Plan W g) : Type 0 where
  pub units : after.units ≡ before.units
  pub unit_count : after.unit_count ≡ before.unit_count
  pub memory : after.links.now ≡ before.links.now
  pub link_count : after.link_count ≡ before.link_count
  pub total : after.total ≡ before.total

-- each link has the mark that the table gives it, and nothing else is changed
pub record Remarked {W : Type 0} {g : Ghosts W} (marks : List ℕ) (before after : Plan W g) : Type 0 where
  pub marked : (i : ℕ) (d : Link W) → i < before.link_count → slice_index_or after.links.now i d ≡ with_mark (slice_index_or before.links.now i d) (slice_index marks i == 1)
  pub rest : (i : ℕ) (d : Link W) → before.link_count ≤ i → slice_index_or after.links.now i d ≡ slice_index_or before.links.now i d
  pub size : length after.links.now ≡ length before.links.now
  pub units : after.units ≡ before.units
  pub unit_count : after.unit_count ≡ before.unit_count
  pub link_count : after.link_count ≡ before.link_count
  pub total : after.total ≡ before.total
