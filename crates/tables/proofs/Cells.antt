-- The values of a table's entries, and what a write changes.
use Rattle.std.proofs.Common.{◌≡◌, ℕ, zero, suc, ◌+◌, ◌*◌, ◌/◌, ◌%◌, ◌<◌, ◌≤◌, List, [], ◌∷◌, ◌++◌, length, get_or, set, sym, refl, ap, ◌∙◌, arith}
use Rattle.std.proofs.lemmas.Nat.{div-mul-add, mod-mul-add, mul-add-lt}
use Rattle.weights.specs.declared.weight.Weight.{Ghosts}
use Rattle.tables.specs.Meaning.{value_at}

module _ {W : Type 0} (g : Ghosts W) where
  pub value_get_d : (xs : List W) (i : ℕ) (d : W) → i < length xs → value_at g xs i ≡ g.value (get_or xs i d)
  unfolding value_at
  value_get_d [] i d h = absurd (omega arith)
  value_get_d (x ∷ xs) zero d h = refl
  value_get_d (x ∷ xs) (suc i) d h = value_get_d xs i d (omega arith)

  -- what is written is there
  pub value_set_same : (xs : List W) (i : ℕ) (x : W) → i < length xs → value_at g (set xs i x) i ≡ g.value x
  unfolding value_at
  value_set_same [] i x h = absurd (omega arith)
  value_set_same (y ∷ xs) zero x h = refl
  value_set_same (y ∷ xs) (suc i) x h = value_set_same xs i x (omega arith)

  -- other places keep their values
  pub value_set_other : (xs : List W) (i j : ℕ) (x : W) → (j ≡ i → ⊥) → value_at g (set xs i x) j ≡ value_at g xs j
  unfolding value_at
  value_set_other [] i j x ne = refl
  value_set_other (y ∷ xs) zero zero x ne = absurd (ne refl)
  value_set_other (y ∷ xs) zero (suc j) x ne = refl
  value_set_other (y ∷ xs) (suc i) zero x ne = refl
  value_set_other (y ∷ xs) (suc i) (suc j) x ne = value_set_other xs i j x (λ e. ne (ap suc e))

  -- what stands before a list stands there too with more behind it
  pub value_append : (xs ys : List W) (i : ℕ) → i < length xs → value_at g (xs ++ ys) i ≡ value_at g xs i
  unfolding value_at
  value_append [] ys i h = absurd (omega arith)
  value_append (x ∷ xs) ys zero h = refl
  value_append (x ∷ xs) ys (suc i) h = value_append xs ys i (omega arith)

-- one place is one row and one column
pub same_cell : (n a b c d : ℕ) → b < n → d < n → a * n + b ≡ c * n + d → (a ≡ c) × (b ≡ d)
same_cell n a b c d hb hd e =
    (sym (div-mul-add a n b hb) ∙ ap (λ k. k / n) e ∙ div-mul-add c n d hd, sym (mod-mul-add a n b hb) ∙ ap (λ k. k % n) e ∙ mod-mul-add c n d hd)

-- a row and a column are a place within a table
pub cell_within : (row column units size : ℕ) → row < units → column < units → units * units ≤ size → row * units + column < size
cell_within row column units size lr lc room = let h = mul-add-lt row units column units lr lc in omega arith
