-- The order of a binary heap: a place p has the children 2p + 1 and 2p + 2. `first b a` says that b has to come before a.
use Rattle.std.specs.Prelude.{◌≡◌, ℕ, ◌+◌, ◌*◌, ◌<◌, ◌≤◌, Bool, false, Some, None, Option, ◌≢◌}

abbrev pub Child : ℕ → ℕ → Type 0
Child p c = (2 * p + 1 ≤ c) × (c ≤ 2 * p + 2)

-- what stands at c need not come before what stands at p
abbrev pub Below : {X : Type 0} → (X → X → Bool) → (ℕ → Option X) → ℕ → ℕ → Type 0
Below {X} first at p c = (a b : X) → at p ≡ Some a → at c ≡ Some b → first b a ≡ false

-- the heap's order
abbrev pub InOrder : {X : Type 0} → (X → X → Bool) → (ℕ → Option X) → ℕ → Type 0
InOrder first at count = (p c : ℕ) → Child p c → c < count → Below first at p c

-- in order, but that what stands at i may have to rise
pub record Rising {X : Type 0} (first : X → X → Bool) (at : ℕ → Option X) (count i : ℕ) : Type 0 where
  pub others : (p c : ℕ) → Child p c → c < count → (c ≢ i) → Below first at p c
  pub across : (p c : ℕ) → Child p i → Child i c → c < count → Below first at p c

-- in order, but that what stands at i may have to sink
pub record Sinking {X : Type 0} (first : X → X → Bool) (at : ℕ → Option X) (count i : ℕ) : Type 0 where
  pub others : (p c : ℕ) → Child p c → c < count → (p ≢ i) → Below first at p c
  pub across : (p c : ℕ) → Child p i → Child i c → c < count → Below first at p c

-- i and j have changed places
pub record Swapped {X : Type 0} (old new : ℕ → Option X) (i j : ℕ) : Type 0 where
  pub left : new i ≡ old j
  pub right : new j ≡ old i
  pub rest : (k : ℕ) → (k ≢ i) → (k ≢ j) → new k ≡ old k

-- none: i has no child; some: a child of i before which no other child has to come
abbrev pub Eldest : {X : Type 0} → (X → X → Bool) → (ℕ → Option X) → ℕ → ℕ → Option ℕ → Type 0
Eldest first at count i None = (c : ℕ) → Child i c → c < count → ⊥
Eldest first at count i (Some e) = Child i e × (e < count) × ((c : ℕ) → Child i c → c < count → Below first at e c)
