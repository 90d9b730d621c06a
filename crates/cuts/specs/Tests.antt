-- The tests of a pair of groups, and the pair that a pass takes.
use Rattle.std.specs.Prelude.{◌≡◌, ℕ, zero, suc, ◌<◌, Bool, true, cond, not, ◌&&◌, ◌||◌, ◌⊎◌, List, ◌==◌}
use Rattle.cuts.specs.declared.entry.Entry.{Entry}
use Rattle.cuts.specs.declared.ground.Ground.{Ground}
use Rattle.cuts.specs.declared.ground.Ground.TheVariants.{Heavy, Unbalanced, Triangle, Neighbourhood, Scan}
use Rattle.cuts.specs.Numbers.{ground_number}
use Rattle.cuts.specs.Kinds.{Kind, AtMost, above, lesser}
use Rattle.cuts.specs.Links.{Link}
use Rattle.cuts.specs.Groups.{stands, degree, joint}

-- w is a group, and neither u nor v
abbrev pub third : ℕ → List Entry → ℕ → ℕ → ℕ → Bool
third n es u v w = stands n es w && not (w == u || w == v)

module _ {V : Type 0} (K : Kind V) (n : ℕ) (ls : List (Link V)) (es : List Entry) where
  abbrev pub twice : V → V
  twice a = K.plus a a

  -- the joint weight of u and v, and for each third group below k the lesser of its joint weights with the two
  abbrev pub gathered : ℕ → ℕ → ℕ → V
  gathered u v zero = joint K ls es u v
  gathered u v (suc k) = cond (third n es u v k) (K.plus (gathered u v k) (lesser K (joint K ls es u k) (joint K ls es v k))) (gathered u v k)

  -- the pair u, v meets the test of a ground; best is the lightest degree so far
  abbrev pub Meets : V → ℕ → ℕ → Ground → Type 0
  Meets best u v Heavy = AtMost K best (joint K ls es u v)
  Meets best u v Unbalanced = AtMost K (degree K ls es u) (twice (joint K ls es u v)) ⊎ AtMost K (degree K ls es v) (twice (joint K ls es u v))
  Meets best u v Triangle =
      (w : ℕ) × (third n es u v w ≡ true)
      × AtMost K (degree K ls es u) (twice (K.plus (joint K ls es u v) (joint K ls es u w)))
      × AtMost K (degree K ls es v) (twice (K.plus (joint K ls es u v) (joint K ls es v w)))
  Meets best u v Neighbourhood = AtMost K best (gathered u v n)
  Meets best u v Scan = ⊥

  -- two groups, the lower first, with a joint weight above nothing
  abbrev pub Pair : ℕ → ℕ → Type 0
  Pair u v = (stands n es u ≡ true) × (stands n es v ≡ true) × (u < v) × (above K (joint K ls es u v) ≡ true)

  -- the pair u, v is the first that meets a test, and the ground is the lowest whose test it meets
  pub record First (best : V) (u v : ℕ) (why : Ground) : Type 0 where
    pub pair : Pair u v
    pub meets : Meets best u v why
    pub lowest : (other : Ground) → Meets best u v other → ground_number other < ground_number why → ⊥
    pub earlier : (a b : ℕ) → Pair a b → (a < u) ⊎ ((a ≡ u) × (b < v)) → (other : Ground) → Meets best a b other → ⊥

  -- no pair meets a test
  abbrev pub None : V → Type 0
  None best = (a b : ℕ) → Pair a b → (other : Ground) → Meets best a b other → ⊥
