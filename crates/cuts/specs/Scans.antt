-- A scan of the groups: the order in which they are taken, and the pairs found.
use Rattle.std.specs.Prelude.{◌≡◌, ℕ, zero, suc, Bool, true, false, cond, not, ◌&&◌, ◌||◌, ◌⊎◌, List, [], ◌∷◌, ◌++◌, ◌==◌}
use Rattle.cuts.specs.declared.entry.Entry.{Entry}
use Rattle.cuts.specs.Kinds.{Kind, AtMost, above}
use Rattle.cuts.specs.Links.{Link}
use Rattle.cuts.specs.Divisions.{between}
use Rattle.cuts.specs.Groups.{after, group, stands, joint}

abbrev pub has : List ℕ → ℕ → Bool
has [] x = false
has (a ∷ rest) x = x == a || has rest x

module _ {V : Type 0} (K : Kind V) (n : ℕ) (ls : List (Link V)) (es : List Entry) where
  -- the key of w, a group that waits: what joins it to the groups taken
  abbrev pub key : List ℕ → ℕ → V
  key taken w = between K ls (λ x. has taken (after es x)) (group es w)

  -- groups in the order in which they were taken, the last in front: each was a heaviest of those that waited
  abbrev pub Order : List ℕ → Type 0
  Order [] = Unit
  Order (v ∷ taken) =
      (stands n es v ≡ true) × (has taken v ≡ false)
      × ((w : ℕ) → stands n es w ≡ true → has taken w ≡ false → AtMost K (key taken w) (key taken v))
      × Order taken

  -- the same with keys compared only up to a cap
  abbrev pub Capped : V → List ℕ → Type 0
  Capped cap [] = Unit
  Capped cap (v ∷ taken) =
      (stands n es v ≡ true) × (has taken v ≡ false)
      × ((w : ℕ) → stands n es w ≡ true → has taken w ≡ false → AtMost K (key taken w) (key taken v) ⊎ AtMost K cap (key taken v))
      × Capped cap taken

  -- every group is taken
  abbrev pub Complete : List ℕ → Type 0
  Complete taken = (w : ℕ) → stands n es w ≡ true → has taken w ≡ true

  -- when v is taken, w still waits and is raised, and its key then comes to the bound
  abbrev pub raised : V → ℕ → List ℕ → ℕ → Bool
  raised bound v taken w = (stands n es w && not (has (v ∷ taken) w)) && (above K (joint K ls es v w) && K.at_most bound (key (v ∷ taken) w))

  -- the pairs found when v is taken, with the groups below k, the lowest first
  abbrev pub finds : V → ℕ → List ℕ → ℕ → List (ℕ × ℕ)
  finds bound v taken zero = []
  finds bound v taken (suc k) = finds bound v taken k ++ cond (raised bound v taken k) ((v, k) ∷ []) []

  -- all pairs found, in the order found
  abbrev pub found : V → List ℕ → List (ℕ × ℕ)
  found bound [] = []
  found bound (v ∷ taken) = found bound taken ++ finds bound v taken n
