-- What every plan keeps.
use Rattle.std.specs.Prelude.{◌≡◌, ℕ, ◌+◌, ◌<◌, ◌≤◌, List, [], ◌∷◌, map, take, length, slice_index_or}
use Rattle.std.specs.List.{AllWithin}
use Rattle.weights.specs.declared.weight.Weight.{Ghosts}
use Rattle.codes.specs.Held.{bytes_of}
use Rattle.plans.specs.declared.plan.Unit.{Unit}
use Rattle.plans.specs.declared.plan.Link.{Link}

-- the most units, links and amounts of a plan
abbrev pub most_units : ℕ
most_units = 64

abbrev pub most_links : ℕ
most_links = 512

abbrev pub most_total : ℕ
most_total = 1000000

abbrev pub code_of : Unit → List ℕ
code_of u = bytes_of u.code

-- the amount of a weight
abbrev pub amount_of : {W : Type 0} → Ghosts W → W → ℕ
amount_of g w = g.size (g.value w)

-- the amounts of all links together, in service or out
abbrev pub total_of : {W : Type 0} → Ghosts W → List (Link W) → ℕ
total_of g [] = 0
total_of g (l ∷ ls) = amount_of g l.weight + total_of g ls

-- both ends are among the first n units and differ, and the weight is not nothing
pub record Joins {W : Type 0} (g : Ghosts W) (n : ℕ) (l : Link W) : Type 0 where
  pub first : l.first < n
  pub second : l.second < n
  pub apart : l.first ≡ l.second → ⊥
  pub weighty : 0 < amount_of g l.weight

-- two units with one code are one unit
abbrev pub Distinct : List (List ℕ) → Type 0
Distinct cs = (i j : ℕ) → i < length cs → j < length cs → slice_index_or cs i [] ≡ slice_index_or cs j [] → i ≡ j

-- the first units and links of a plan's memory, as many as the plan counts; a unit's code is whole by its own type
pub record Sound {W : Type 0} (g : Ghosts W) (units : List Unit) (unit_count : ℕ) (links : List (Link W)) (link_count : ℕ) (total : ℕ) : Type 0 where
  pub few : unit_count ≤ most_units
  pub short : link_count ≤ most_links
  pub table : length units ≡ most_units
  pub memory : most_links ≤ length links
  pub distinct : Distinct (map code_of (take unit_count units))
  pub joins : AllWithin (Joins g unit_count) links 0 link_count
  pub counted : total ≡ total_of g (take link_count links)
  pub limited : total ≤ most_total
