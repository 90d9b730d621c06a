-- What every kind of weight owes.
use Rattle.std.specs.Prelude.{◌≡◌, ℕ, ◌+◌, ◌<◌, ◌≤◌, Bool, true, ◌⊎◌, Ok, Err, Result}
use Rattle.refusals.specs.declared.Refusal.{Refusal}
use Rattle.refusals.specs.declared.Refusal.TheVariants.{OverLimit}

-- no weight that is made, and no sum, has a larger amount
abbrev pub limit : ℕ
limit = 2000000

-- Sum, order and amount of a kind. Each law is owed only where no sum in it is refused, for weights that can be made.
pub record Laws {V : Type 0} (zero : V) (plus : V → V → V) (le : V → V → Bool) (size : V → ℕ) : Type 0 where
  pub neutral : (a : V) → size a ≤ limit → plus zero a ≡ a
  pub comm : (a b : V) → size a + size b ≤ limit → plus a b ≡ plus b a
  pub assoc : (a b c : V) → size a + size b + size c ≤ limit → plus (plus a b) c ≡ plus a (plus b c)
  pub amounts : (a b : V) → size a + size b ≤ limit → size (plus a b) ≡ size a + size b
  pub none : size zero ≡ 0
  pub only_none : (a : V) → size a ≡ 0 → a ≡ zero
  pub least : (a : V) → size a ≤ limit → le zero a ≡ true
  pub total : (a b : V) → size a ≤ limit → size b ≤ limit → (le a b ≡ true) ⊎ (le b a ≡ true)
  pub trans : (a b c : V) → size a ≤ limit → size b ≤ limit → size c ≤ limit → le a b ≡ true → le b c ≡ true → le a c ≡ true
  pub antisym : (a b : V) → size a ≤ limit → size b ≤ limit → le a b ≡ true → le b a ≡ true → a ≡ b
  -- the same third added to both keeps the order, both ways
  pub grow : (a b c : V) → size a + size c ≤ limit → size b + size c ≤ limit → le a b ≡ true → le (plus a c) (plus b c) ≡ true
  pub shrink : (a b c : V) → size a + size c ≤ limit → size b + size c ≤ limit → le (plus a c) (plus b c) ≡ true → le a b ≡ true

-- A weight is exactly its parts, one to eight of them.
pub record Exact {V : Type 0} (arity : ℕ) (of : (ℕ → ℕ) → V) (nth : V → ℕ → ℕ) : Type 0 where
  pub some : 1 ≤ arity
  pub few : arity ≤ 8
  pub holds : (f : ℕ → ℕ) (i : ℕ) → i < arity → nth (of f) i ≡ f i
  pub past : (v : V) (i : ℕ) → arity ≤ i → nth v i ≡ 0
  pub back : (v : V) → of (nth v) ≡ v
  -- only the parts that the kind has are looked at
  pub same : (f g : ℕ → ℕ) → ((i : ℕ) → i < arity → f i ≡ g i) → of f ≡ of g

-- the value v is made exactly where its amount keeps the limit, else 12
abbrev pub Limited : {X V : Type 0} → Result X Refusal → (X → V) → V → ℕ → Type 0
Limited (Ok x) value v n = (value x ≡ v) × (n ≤ limit)
Limited (Err e) value v n = (e ≡ OverLimit) × (limit < n)
