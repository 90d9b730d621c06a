-- Divisions of the units of a plan, what they weigh, and which are weakest.
use Rattle.std.specs.Prelude.{◌≡◌, ℕ, ◌<◌, Bool, true, false, cond, not, ◌&&◌, ◌||◌, List, ◌==◌}
use Rattle.cuts.specs.Kinds.{Kind, AtMost}
use Rattle.cuts.specs.Links.{Link, sum}

-- some unit is marked, and some unit is not
pub record Division (n : ℕ) (S : ℕ → Bool) : Type 0 where
  pub some : (a : ℕ) × (a < n) × (S a ≡ true)
  pub not_all : (b : ℕ) × (b < n) × (S b ≡ false)

-- the unit u alone
abbrev pub only : ℕ → ℕ → Bool
only u x = x == u

-- exactly one of the two
abbrev pub differ : Bool → Bool → Bool
differ true b = not b
differ false b = b

-- the same division seen from the other side where unit 0 would be marked
abbrev pub turned : (ℕ → Bool) → ℕ → Bool
turned S x = cond (S 0) (not (S x)) (S x)

module _ {V : Type 0} (K : Kind V) where
  -- the links in service with exactly one end marked
  abbrev pub weight_of : List (Link V) → (ℕ → Bool) → V
  weight_of ls S = sum K (λ x y. differ (S x) (S y)) ls

  -- the links in service with one end in G and the other in H
  abbrev pub between : List (Link V) → (ℕ → Bool) → (ℕ → Bool) → V
  between ls G H = sum K (λ x y. (G x && H y) || (H x && G y)) ls

  -- no division weighs less than S
  pub record Weakest (n : ℕ) (ls : List (Link V)) (S : ℕ → Bool) : Type 0 where
    pub division : Division n S
    pub least : (D : ℕ → Bool) → Division n D → AtMost K (weight_of ls S) (weight_of ls D)

  -- m is the weight of a weakest division
  abbrev pub Figure : ℕ → List (Link V) → V → Type 0
  Figure n ls m = (S : ℕ → Bool) × Weakest n ls S × (m ≡ weight_of ls S)
