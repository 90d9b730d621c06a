-- Found pairs without those that earlier ones bring together already. Merging these comes to the same.
use Rattle.std.specs.Prelude.{◌≡◌, ℕ, min, max, cond, List, [], ◌∷◌, ◌==◌}
use Rattle.cuts.specs.Kinds.{Kind}
use Rattle.cuts.specs.Links.{Link}
use Rattle.cuts.specs.Records.{Point, merge_found}

-- the class of each group, once the classes of a pair are one, under the lower name
abbrev pub brought : (ℕ → ℕ) → ℕ × ℕ → ℕ → ℕ
brought c f x = cond (c x == max (c f.0) (c f.1)) (min (c f.0) (c f.1)) (c x)

abbrev pub classes : (ℕ → ℕ) → List (ℕ × ℕ) → ℕ → ℕ
classes c [] = c
classes c (f ∷ fs) = classes (brought c f) fs

-- the pairs that join two classes
abbrev pub noted : (ℕ → ℕ) → List (ℕ × ℕ) → List (ℕ × ℕ)
noted c [] = []
noted c (f ∷ fs) = cond (c f.0 == c f.1) (noted c fs) (f ∷ noted (brought c f) fs)

abbrev pub NotedSame : {V : Type 0} → Kind V → Type 0
NotedSame {V} K = (n : ℕ) (ls : List (Link V)) (fs : List (ℕ × ℕ)) (p : Point) → merge_found K n ls (noted (λ x. x) fs) p ≡ merge_found K n ls fs p
