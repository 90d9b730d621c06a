-- Which lists of characters are fault codes, first as a rule to read and then as a test that computes.
-- A character is its number: P 80, C 67, B 66, U 85, A to Z 65 to 90, 0 to 9 48 to 57.
use Rattle.std.specs.Prelude.{◌≡◌, ℕ, zero, suc, ◌<◌, ◌≤◌, Bool, true, ◌&&◌, ◌||◌, ◌⊎◌, List, [], ◌∷◌, length, ◌==◌, nat_le, slice_index}

-- P, C, B or U
abbrev pub First : ℕ → Type 0
First c = (c ≡ 80) ⊎ ((c ≡ 67) ⊎ ((c ≡ 66) ⊎ (c ≡ 85)))

-- a capital letter or a digit
abbrev pub Later : ℕ → Type 0
Later c = ((65 ≤ c) × (c ≤ 90)) ⊎ ((48 ≤ c) × (c ≤ 57))

-- The rule: six or seven characters, the first as First has it and each later one as Later has it.
pub record Code (cs : List ℕ) : Type 0 where
  pub size : (length cs ≡ 6) ⊎ (length cs ≡ 7)
  pub first : First (slice_index cs 0)
  pub later : (i : ℕ) → 0 < i → i < length cs → Later (slice_index cs i)

-- the test of First
abbrev pub is_first : ℕ → Bool
is_first c = c == 80 || (c == 67 || (c == 66 || c == 85))

-- the test of Later
abbrev pub is_later : ℕ → Bool
is_later c = (nat_le 65 c && nat_le c 90) || (nat_le 48 c && nat_le c 57)

-- whether a character may stand at a position, counted from 0
abbrev pub fits_at : ℕ → ℕ → Bool
fits_at zero c = is_first c
fits_at (suc n) c = is_later c

-- whether each character fits its position, where the first stands at position n
abbrev pub fits_from : ℕ → List ℕ → Bool
fits_from n [] = true
fits_from n (c ∷ cs) = fits_at n c && fits_from (suc n) cs

-- the test of Code
abbrev pub is_code : List ℕ → Bool
is_code cs = (length cs == 6 || length cs == 7) && fits_from 0 cs
