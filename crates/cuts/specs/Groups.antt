-- Groups of units, as the mergers of a record make them. A group goes by its lowest unit.
use Rattle.std.specs.Prelude.{◌≡◌, ℕ, zero, suc, ◌+◌, ◌<◌, Bool, true, false, cond, ◌&&◌, List, [], ◌∷◌, ◌++◌, ◌==◌, nat_lt}
use Rattle.cuts.specs.declared.entry.Entry.{Entry}
use Rattle.cuts.specs.Kinds.{Kind}
use Rattle.cuts.specs.Links.{Link}
use Rattle.cuts.specs.Divisions.{weight_of, between}

-- the group of a unit after some mergers, of which the first stands in front
abbrev pub after : List Entry → ℕ → ℕ
after [] x = x
after (e ∷ es) x = after es (cond (x == e.high) e.low x)

-- the units of the group g
abbrev pub group : List Entry → ℕ → ℕ → Bool
group es g x = after es x == g

-- g is a group of the n units
abbrev pub stands : ℕ → List Entry → ℕ → Bool
stands n es g = nat_lt g n && after es g == g

-- how many numbers below k pass a test, and how many groups stand
abbrev pub one : Bool → ℕ
one true = 1
one false = 0

abbrev pub count_below : ℕ → (ℕ → Bool) → ℕ
count_below zero P = 0
count_below (suc k) P = one (P k) + count_below k P

abbrev pub left : ℕ → List Entry → ℕ
left n es = count_below n (stands n es)

-- S marks all or none of each group
abbrev pub Whole : ℕ → List Entry → (ℕ → Bool) → Type 0
Whole n es S = (x y : ℕ) → x < n → y < n → after es x ≡ after es y → S x ≡ S y

-- after the mergers done, each of those that follow joins two different groups that then stand, the lower first
abbrev pub Joins : ℕ → List Entry → List Entry → Type 0
Joins n done [] = Unit
Joins n done (e ∷ es) = (stands n done e.low ≡ true) × (stands n done e.high ≡ true) × (e.low < e.high) × Joins n (done ++ (e ∷ [])) es

module _ {V : Type 0} (K : Kind V) (ls : List (Link V)) (es : List Entry) where
  abbrev pub degree : ℕ → V
  degree g = weight_of K ls (group es g)

  -- the joint weight of two groups
  abbrev pub joint : ℕ → ℕ → V
  joint g h = between K ls (group es g) (group es h)
