-- What holds link by link.
use Rattle.std.proofs.Common.{◌≡◌, ℕ, ◌+◌, ◌-◌, ◌≤◌, Bool, true, false, cond, ◌&&◌, ◌||◌, eqb, ◌⊎◌, [], ◌∷◌, arith}
use Rattle.std.proofs.lemmas.Bool.Decides.{nat_tests}
use Rattle.cuts.specs.Divisions.{only}
use Rattle.cuts.specs.Scans.{has}
use Rattle.cuts.proofs.Rules.{Two, cuts, cuts_in, into, moved}

pub two_cuts : (S : ℕ → Bool) → Two (cuts S)
two_cuts S x y = grind (arith, nat_tests)

pub two_into : (T : ℕ → Bool) (w : ℕ) → Two (into T w)
two_into T w x y = grind (arith, nat_tests)

pub two_in : (U S : ℕ → Bool) → Two (cuts_in U S)
two_in U S x y = grind (arith, nat_tests)

-- the links of u to its own side of S, to the other side, and what S cuts elsewhere
abbrev pub own : (ℕ → Bool) → ℕ → ℕ → ℕ → ℕ
own S u x y = cuts (only u) x y - cuts S x y

abbrev pub across : (ℕ → Bool) → ℕ → ℕ → ℕ → ℕ
across S u x y = cuts (only u) x y - own S u x y

abbrev pub rest : (ℕ → Bool) → ℕ → ℕ → ℕ → ℕ
rest S u x y = cuts S x y - cuts (only u) x y

module _ (S : ℕ → Bool) (u x y : ℕ) where
  pub own_across : cuts (only u) x y ≡ own S u x y + across S u x y
  own_across = omega arith

  pub across_rest : cuts S x y ≡ across S u x y + rest S u x y
  across_rest = omega arith

  pub moved_rest : cuts (moved u S) x y ≡ own S u x y + rest S u x y
  moved_rest = grind (arith, nat_tests)

  pub two_moved : own S u x y + rest S u x y ≤ 2
  two_moved = omega (arith, moved_rest, two_cuts (moved u S) x y)

  pub two_across : across S u x y + across S u x y ≤ 2
  two_across = grind (arith, nat_tests)

pub key_across : (S Z : ℕ → Bool) (u x y : ℕ) → ((z : ℕ) → Z z ≡ true → S u ≡ S z → ⊥) → into Z u x y ≤ across S u x y
key_across S Z u x y parted = let p = parted x in let q = parted y in grind (arith, nat_tests)

pub scan_first : (S : ℕ → Bool) (b w x y : ℕ) → (S b ≡ S w → ⊥) → into (has (b ∷ [])) w x y ≤ cuts_in (has (w ∷ b ∷ [])) S x y
scan_first S b w x y parted = grind (arith, nat_tests)

-- the T of those that follow is has of a list
module _ (S T : ℕ → Bool) (b w x y : ℕ) (parted : S b ≡ S w → ⊥) (out : T b ≡ false) (out' : T w ≡ false) where
  pub scan_kept : into (λ z. eqb z b || T z) w x y + cuts_in (λ z. eqb z w || T z) S x y ≤ cuts_in (λ z. eqb z w || (eqb z b || T z)) S x y + into T w x y
  scan_kept = grind (arith, nat_tests)

  pub scan_turned : into (λ z. eqb z b || T z) w x y + cuts_in (λ z. eqb z b || T z) S x y ≤ cuts_in (λ z. eqb z w || (eqb z b || T z)) S x y + into T w x y
  scan_turned = grind (arith, nat_tests)

pub in_one : (U S : ℕ → Bool) (x y : ℕ) → cuts_in U S x y ≤ 1
in_one U S x y = grind (arith, nat_tests)

pub into_one : (T : ℕ → Bool) (w x y : ℕ) → T w ≡ false → into T w x y ≤ 1
into_one T w x y out = grind (arith, nat_tests)

pub more_point : (S U : ℕ → Bool) (b x y : ℕ) → cuts_in U S x y ≤ cuts_in (λ z. eqb z b || U z) S x y
more_point S U b x y = grind (arith, nat_tests)

pub inner_point : (S T : ℕ → Bool) (b w x y : ℕ) → cuts_in (λ z. eqb z w || T z) S x y ≤ cuts_in (λ z. eqb z w || (eqb z b || T z)) S x y
inner_point S T b w x y = grind (arith, nat_tests)

pub part_point : (S U : ℕ → Bool) (x y : ℕ) → cuts_in U S x y ≤ cuts S x y
part_point S U x y = grind (arith, nat_tests)

pub star_first : (S : ℕ → Bool) (u v x y : ℕ) → (S u ≡ S v → ⊥) → into (only u) v x y ≤ cuts_in (has (u ∷ v ∷ [])) S x y
star_first S u v x y parted = grind (arith, nat_tests)

pub star_more : (S T : ℕ → Bool) (z w u v x y : ℕ) → (S z ≡ S w → ⊥) → (z ≡ u) ⊎ (z ≡ v) → (w ≡ u → ⊥) → (w ≡ v → ⊥) → T w ≡ false → into (only z) w x y + cuts_in (λ a. eqb a u || (eqb a v || T a)) S x y ≤ cuts_in (λ a. eqb a u || (eqb a v || (eqb a w || T a))) S x y
star_more S T z w u v x y parted is p q out = grind (arith, nat_tests)

-- 1 where both ends are in U
abbrev pub within : (ℕ → Bool) → ℕ → ℕ → ℕ
within U x y = cond (U x && U y) 1 0

pub within_first : (u v x y : ℕ) → (u ≡ v → ⊥) → into (only u) v x y ≤ within (has (u ∷ v ∷ [])) x y
within_first u v x y parted = grind (arith, nat_tests)

pub within_more : (T : ℕ → Bool) (z w u v x y : ℕ) → (z ≡ u) ⊎ (z ≡ v) → (w ≡ u → ⊥) → (w ≡ v → ⊥) → T w ≡ false → into (only z) w x y + within (λ a. eqb a u || (eqb a v || T a)) x y ≤ within (λ a. eqb a u || (eqb a v || (eqb a w || T a))) x y
within_more T z w u v x y is p q out = grind (arith, nat_tests)

pub within_one : (U : ℕ → Bool) (x y : ℕ) → within U x y ≤ 1
within_one U x y = grind (arith, nat_tests)

pub two_point : (a b z x y : ℕ) → (a ≡ b → ⊥) → into (has (a ∷ b ∷ [])) z x y ≡ into (only a) z x y + into (only b) z x y
two_point a b z x y parted = grind (arith, nat_tests)
