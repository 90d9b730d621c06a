-- Fields of codes and of numbers.
use Rattle.std.proofs.Common.{◌≡◌, ℕ, ◌+◌, ◌<◌, ◌≤◌, true, eqb, List, [], ◌∷◌, ◌++◌, length, refl, ap, ⊎_elim, add-one, arith}
use Rattle.std.proofs.lemmas.Bool.{eq-eqb, ne_eqb, cond-true, cond-false}
use Rattle.codes.specs.Code.{is_code}
use Rattle.sheets.specs.declared.issue.Issue.{Issue}
use Rattle.sheets.specs.declared.issue.Issue.TheVariants.{First, Second}
use Rattle.sheets.specs.Format.{size_of_code, code_field, four, fours}
use Rattle.sheets.proofs.Seen.{six_or_seven}

-- a code that is shorter than its field is closed by a zero byte, any other stands as it is
pub closed : (issue : Issue) (text : List ℕ) → is_code text ≡ true → length text < size_of_code issue → code_field issue text ≡ text ++ (0 ∷ [])
closed First text e h = absurd (⊎_elim (λ a. omega arith) (λ b. omega arith) (six_or_seven text e))
closed Second text e h =
    cond-true (eqb (length text) 6) (text ++ (0 ∷ [])) text (⊎_elim (λ a. eq-eqb (length text) 6 a) (λ b. absurd (omega arith)) (six_or_seven text e))

pub not_closed : (issue : Issue) (text : List ℕ) → size_of_code issue ≤ length text → code_field issue text ≡ text
not_closed First text h = refl
not_closed Second text h = cond-false (eqb (length text) 6) (text ++ (0 ∷ [])) text (ne_eqb (length text) 6 (λ a. omega arith))

-- one number more
pub fours_more : (f : ℕ → ℕ) (n : ℕ) → fours f (n + 1) ≡ fours f n ++ four (f n)
fours_more f n = ap (fours f) (add-one n)
