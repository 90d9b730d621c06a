-- A plan's links as a table of marks puts them in service or out.
use Rattle.std.specs.Prelude.{ℕ, suc, List, [], ◌∷◌, ◌==◌, slice_index}
use Rattle.weights.specs.declared.weight.Weight.{Ghosts}
use Rattle.cuts.specs.Links.{Link as Joint}
use Rattle.plans.specs.declared.plan.Link.{Link}
use Rattle.plans.specs.Divided.{valued}
use Rattle.plans.specs.Marks.{with_mark}

-- the links from number i on, each in service exactly where its mark is 1
abbrev pub served_from : {W : Type 0} (g : Ghosts W) → List ℕ → ℕ → List (Link W) → List (Joint g.Value)
served_from g marks i [] = []
served_from g marks i (l ∷ ls) = valued g (with_mark l (slice_index marks i == 1)) ∷ served_from g marks (suc i) ls

abbrev pub served : {W : Type 0} (g : Ghosts W) → List ℕ → List (Link W) → List (Joint g.Value)
served g marks links = served_from g marks 0 links
