-- The characters of the code with a number, as bytes.
use Rattle.std.specs.Prelude.{ℕ, zero, suc, ◌/◌, ◌%◌, ◌-◌, ◌^◌, List, [], ◌∷◌, ◌++◌}
use Rattle.std.specs.Fmt.{format_spec, styled_decimal}

-- P, C, B or U
abbrev pub letter : ℕ → List ℕ
letter zero = 80 ∷ []
letter (suc zero) = 67 ∷ []
letter (suc (suc zero)) = 66 ∷ []
letter (suc (suc (suc n))) = 85 ∷ []

-- what `{:04}` writes: at least four digits, with zeros before
abbrev pub four_digits : ℕ → List ℕ
four_digits n = styled_decimal (format_spec 32 0 4 4 (2 ^ 64 - 1)) n

-- A behind an odd number, and nothing behind an even one
abbrev pub tail : ℕ → List ℕ
tail zero = []
tail (suc n) = 65 ∷ []

-- a letter, half the number in four digits, Z, and the tail
abbrev pub code_bytes : ℕ → List ℕ
code_bytes n = letter (n / 2 % 4) ++ (four_digits (n / 2) ++ 90 ∷ tail (n % 2))
