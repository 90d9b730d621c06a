-- Amounts of all links after a change, and lists of links of which one changed.
use Rattle.std.proofs.Common.{◌≡◌, ℕ, zero, suc, ◌+◌, ◌<◌, List, [], ◌∷◌, ◌++◌, length, get_or, set, refl, ap, arith}
use Rattle.std.specs.List.{remove}
use Rattle.weights.specs.declared.weight.Weight.{Ghosts}
use Rattle.plans.specs.declared.plan.Link.{Link}
use Rattle.plans.specs.Model.{amount_of, total_of, changed}

module _ {W : Type 0} (g : Ghosts W) where
  pub total_append : (xs ys : List (Link W)) → total_of g (xs ++ ys) ≡ total_of g xs + total_of g ys
  total_append [] ys = omega arith
  total_append (x ∷ xs) ys = let e = total_append xs ys in omega arith

  -- without one link, and with it
  pub total_removed : (xs : List (Link W)) (k : ℕ) (d : Link W) → k < length xs → total_of g (remove xs k) + amount_of g (get_or xs k d).weight ≡ total_of g xs
  total_removed [] k d h = absurd (omega arith)
  total_removed (x ∷ xs) zero d h = omega arith
  total_removed (x ∷ xs) (suc k) d h = let e = total_removed xs k d (omega arith) in omega arith

  pub total_changed : (xs : List (Link W)) (k : ℕ) (f : Link W → Link W) (d : Link W) → k < length xs → total_of g (changed k f xs) ≡ total_of g (remove xs k) + amount_of g (f (get_or xs k d)).weight
  total_changed [] k f d h = absurd (omega arith)
  total_changed (x ∷ xs) zero f d h = omega arith
  total_changed (x ∷ xs) (suc k) f d h = let e = total_changed xs k f d (omega arith) in omega arith

pub set_changes : {W : Type 0} (xs : List (Link W)) (k : ℕ) (f : Link W → Link W) (d : Link W) → set xs k (f (get_or xs k d)) ≡ changed k f xs
set_changes [] k f d = refl
set_changes (x ∷ xs) zero f d = refl
set_changes (x ∷ xs) (suc k) f d = ap (λ ys. x ∷ ys) (set_changes xs k f d)
