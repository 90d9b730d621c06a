-- Links in service weighed by a rule, which says from a link's two ends how often it counts.
use Rattle.std.proofs.Common.{◌≡◌, ℕ, zero, suc, ◌+◌, ◌*◌, ◌≤◌, Bool, true, false, cond, not, ◌&&◌, eqb, List, [], ◌∷◌}
use Rattle.cuts.specs.Kinds.{Kind}
use Rattle.cuts.specs.Divisions.{only}

-- a weight, so many times
unfoldable pub times : {V : Type 0} → Kind V → ℕ → V → V
times K zero w = K.nothing
times K (suc n) w = K.plus w (times K n w)

-- the links of a list, each as many times as f says of its two ends
unfoldable pub weigh : {V : Type 0} → Kind V → List (ℕ × ℕ × V) → (ℕ → ℕ → ℕ) → V
weigh K [] f = K.nothing
weigh K (l ∷ ls) f = K.plus (times K (f l.0 l.1) l.2) (weigh K ls f)

-- the amounts of all links, and of each as many times as f says
unfoldable pub heft : {V : Type 0} → Kind V → List (ℕ × ℕ × V) → ℕ
heft K [] = 0
heft K (l ∷ ls) = K.amount l.2 + heft K ls

unfoldable pub count : {V : Type 0} → Kind V → List (ℕ × ℕ × V) → (ℕ → ℕ → ℕ) → ℕ
count K [] f = 0
count K (l ∷ ls) f = f l.0 l.1 * K.amount l.2 + count K ls f

-- a rule that counts no link more than twice
abbrev pub Two : (ℕ → ℕ → ℕ) → Type 0
Two f = (x y : ℕ) → f x y ≤ 2

-- 1 where one holds and the other does not
abbrev pub apart : Bool → Bool → ℕ
apart true true = 0
apart true false = 1
apart false true = 1
apart false false = 0

-- 1 where both hold
abbrev pub both : Bool → Bool → ℕ
both true true = 1
both true false = 0
both false true = 0
both false false = 0

-- u on the other side
abbrev pub moved : ℕ → (ℕ → Bool) → ℕ → Bool
moved u S x = cond (eqb x u) (not (S u)) (S x)

-- a link that a division S cuts
abbrev pub cuts : (ℕ → Bool) → ℕ → ℕ → ℕ
cuts S x y = apart (S x) (S y)

-- a link that S cuts, with both its ends in U
abbrev pub cuts_in : (ℕ → Bool) → (ℕ → Bool) → ℕ → ℕ → ℕ
cuts_in U S x y = cond (U x && U y) (apart (S x) (S y)) 0

-- a link from a member of T to w, which is not of T
abbrev pub into : (ℕ → Bool) → ℕ → ℕ → ℕ → ℕ
into T w x y = both (T x) (eqb y w) + both (eqb x w) (T y)

-- each link with its ends' names changed
abbrev pub relabel : {V : Type 0} → (ℕ → ℕ) → List (ℕ × ℕ × V) → List (ℕ × ℕ × V)
relabel g [] = []
relabel g (l ∷ ls) = (g l.0, g l.1, l.2) ∷ relabel g ls

-- each link is between members of G
abbrev pub Over : {V : Type 0} → (ℕ → Bool) → List (ℕ × ℕ × V) → Type 0
Over G [] = Unit
Over G (l ∷ ls) = (G l.0 ≡ true) × (G l.1 ≡ true) × Over G ls

-- what a division cuts, what is at u, what joins T to w, and what joins u to v
module _ {V : Type 0} (K : Kind V) where
  abbrev pub cut : List (ℕ × ℕ × V) → (ℕ → Bool) → V
  cut ls S = weigh K ls (cuts S)

  abbrev pub deg : List (ℕ × ℕ × V) → ℕ → V
  deg ls u = cut ls (only u)

  abbrev pub pull : List (ℕ × ℕ × V) → (ℕ → Bool) → ℕ → V
  pull ls T w = weigh K ls (into T w)

  abbrev pub tie : List (ℕ × ℕ × V) → ℕ → ℕ → V
  tie ls u v = pull ls (only u) v
