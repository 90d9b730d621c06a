-- Characters from one position on, and the same characters with their positions.
use Rattle.std.proofs.Common.{◌≡◌, ℕ, suc, List, [], ◌∷◌, refl, arith}
use Rattle.std.specs.List.{list_all, enumerate_from}
use Rattle.codes.specs.Code.{fits_at, fits_from}

pub fits_each : (n : ℕ) (cs : List ℕ) → list_all (λ p. fits_at p.0 p.1) (enumerate_from n cs) ≡ fits_from n cs
fits_each n [] = refl
fits_each n (c ∷ cs) = let e = fits_each (suc n) cs in grind arith
