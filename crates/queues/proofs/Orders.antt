-- The order of weights, at weights that are made: the limits that its laws ask for are met by each of them.
use Rattle.std.proofs.Common.{◌≡◌, ℕ, ◌≤◌, Bool, true, false, ◌⊎◌, ⊎_elim}
use Rattle.std.proofs.lemmas.Bool.{both_ways, cases_Bool}
use Rattle.weights.specs.Laws.{Laws, limit}

pub record Ordered {W : Type 0} (le : W → W → Bool) : Type 0 where
  pub total : (a b : W) → (le a b ≡ true) ⊎ (le b a ≡ true)
  pub trans : (a b c : W) → le a b ≡ true → le b c ≡ true → le a c ≡ true

pub ordered : {W V : Type 0} {zero : V} {plus : V → V → V} {le : V → V → Bool} {size : V → ℕ} (value : W → V) → Laws zero plus le size → ((x : W) → size (value x) ≤ limit) → Ordered (λ a b. le (value a) (value b))
ordered value laws bounded = record {
  total = λ a b. laws.total (value a) (value b) (bounded a) (bounded b);
  trans = λ a b c. laws.trans (value a) (value b) (value c) (bounded a) (bounded b) (bounded c);
}

module _ {W : Type 0} {le : W → W → Bool} (o : Ordered le) where
  pub le_self : (a : W) → le a a ≡ true
  le_self a = ⊎_elim (λ e. e) (λ e. e) (o.total a a)

  -- what is not at most b is heavier
  pub le_flip : (a b : W) → le a b ≡ false → le b a ≡ true
  le_flip a b e = ⊎_elim (λ (h : le a b ≡ true). absurd (both_ways (le a b) e h)) (λ h. h) (o.total a b)

  -- what is heavier than b is heavier than all below b
  pub le_above : (a b c : W) → le a b ≡ false → le c b ≡ true → le a c ≡ false
  le_above a b c e h = ⊎_elim (λ (y : le a c ≡ true). absurd (both_ways (le a b) e (o.trans a c b y h))) (λ n. n) (cases_Bool (le a c))
