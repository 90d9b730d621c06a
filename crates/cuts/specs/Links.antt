-- Links between units, and sums over links in service. The units of a plan are the numbers below n.
use Rattle.std.specs.Prelude.{ℕ, ◌+◌, ◌<◌, ◌≤◌, Bool, cond, ◌&&◌, List, [], ◌∷◌}
use Rattle.weights.specs.Laws.{limit}
use Rattle.cuts.specs.Kinds.{Kind}

pub record Link (V : Type 0) : Type 0 where
  pub first : ℕ
  pub second : ℕ
  pub in_service : Bool
  pub weight : V

-- the weights of the links in service whose two ends pass the test, added up
unfoldable pub sum : {V : Type 0} → Kind V → (ℕ → ℕ → Bool) → List (Link V) → V
sum K test [] = K.nothing
sum K test (l ∷ ls) = cond (l.in_service && test l.first l.second) (K.plus l.weight (sum K test ls)) (sum K test ls)

-- the amounts of the links in service, added up
unfoldable pub load : {V : Type 0} → Kind V → List (Link V) → ℕ
load K [] = 0
load K (l ∷ ls) = cond l.in_service (K.amount l.weight) 0 + load K ls

-- the amounts of all links, in service or out
unfoldable pub total : {V : Type 0} → Kind V → List (Link V) → ℕ
total K [] = 0
total K (l ∷ ls) = K.amount l.weight + total K ls

-- each link joins units of the plan
unfoldable pub Ends : {V : Type 0} → ℕ → List (Link V) → Type 0
Ends n [] = Unit
Ends n (l ∷ ls) = (l.first < n) × (l.second < n) × Ends n ls

-- the links of a plan of n units, over which no sum is refused, and none when it is doubled
pub record Sound {V : Type 0} (K : Kind V) (n : ℕ) (ls : List (Link V)) : Type 0 where
  pub ends : Ends n ls
  pub light : load K ls + load K ls ≤ limit
