-- A table from which one entry was taken out: the later ones, as far as entry n, were copied down by one.
use Rattle.std.proofs.Common.{◌≡◌, ℕ, ◌+◌, ◌-◌, ◌<◌, ◌≤◌, List, ◌++◌, length, take, drop, ⊎_elim, arith, rules}
use Rattle.std.proofs.lemmas.List.{places, same_lists}
use Rattle.std.proofs.lemmas.Bool.{cases_lt}
use Rattle.std.specs.List.{AllWithin, CopiedTo, SameBelow}

module _ {X : Type 0} (old cur : List X) (k n : ℕ) (below : SameBelow old cur k) (down : CopiedTo old cur (k + 1) k (n - (k + 1))) where
  pub front : length cur ≡ length old → k < n → n ≤ length old → take (n - 1) cur ≡ take k old ++ drop (k + 1) (take n old)
  front len a b =
      same_lists _ _ (search (rules, places))
      (λ j d h. let b1 = below j d in let b2 = down j d in grind (arith, places))

-- what holds of every entry holds of those that are left
pub every_left : {X : Type 0} (P : X → Type 0) (old cur : List X) (k n : ℕ) → SameBelow old cur k → CopiedTo old cur (k + 1) k (n - (k + 1)) → AllWithin P old 0 n → AllWithin P cur 0 (n - 1)
every_left P old cur k n below down every j d low high = ⊎_elim
    (λ (l : j < k). rw (below j d l) (every j d low (omega arith)))
    (λ (l : k ≤ j). rw (down j d l (omega arith)) (every (k + 1 + (j - k)) d (omega arith) (omega arith)))
    (cases_lt j k)
