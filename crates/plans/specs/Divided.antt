-- What weigh is refused with, and what it answers.
use Rattle.std.specs.Prelude.{ℕ, Bool, ◌&&◌, List, map, length, Option, count_by, ◌==◌, nat_le, nat_lt, slice_index}
use Rattle.std.specs.List.{list_all}
use Rattle.refusals.specs.declared.Refusal.{Refusal}
use Rattle.refusals.specs.declared.Refusal.TheVariants.{BadMark, NoDivision}
use Rattle.weights.specs.declared.weight.Weight.{Ghosts}
use Rattle.cuts.specs.Kinds.{kind_of}
use Rattle.cuts.specs.Links.{Link as Joint}
use Rattle.cuts.specs.Divisions.{weight_of}
use Rattle.plans.specs.declared.plan.Link.{Link}
use Rattle.plans.specs.Model.{Model}
use Rattle.plans.specs.Calls.{accepted, check}

-- a link with its weight as a value
abbrev pub valued : {W : Type 0} → (g : Ghosts W) → Link W → Joint g.Value
valued g l = record { first = l.first; second = l.second; in_service = l.in_service; weight = g.value l.weight }

-- the links of a plan, as divisions cut them
abbrev pub links_of : {W : Type 0} → (g : Ghosts W) → Model W → List (Joint g.Value)
links_of g m = map (valued g) m.links

-- the units that a list of marks marks, by 1
abbrev pub side_of : List ℕ → ℕ → Bool
side_of marks u = slice_index marks u == 1

-- every mark is 0 or 1
abbrev pub are_marks : List ℕ → Bool
are_marks ms = list_all (λ m. nat_lt m 2) ms

-- how many marks are 1
abbrev pub marks_count : List ℕ → ℕ
marks_count ms = count_by (λ m. m == 1) ms

-- weigh: 15 below two units, 14, then 15 if none or all are marked
abbrev pub weigh_verdict : {W : Type 0} → Model W → List ℕ → Option Refusal
weigh_verdict m marks =
    check (nat_le 2 (length m.codes)) NoDivision
    (check (length marks == length m.codes && are_marks marks) BadMark
    (check (nat_lt 0 (marks_count marks) && nat_lt (marks_count marks) (length m.codes)) NoDivision
    accepted))

-- the weight of the division that the marks give
abbrev pub weighed : {W : Type 0} → (g : Ghosts W) → Model W → List ℕ → g.Value
weighed g m marks = weight_of (kind_of g) (links_of g m) (side_of marks)
