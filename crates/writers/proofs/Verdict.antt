-- The issue with a number, and what it leaves of the verdict.
use Rattle.std.proofs.Common.{◌≡◌, ℕ, ◌≤◌, true, false, ◌||◌, eqb, List, [], ◌∷◌, map, length, take, Ok, refl, ap, subst, ⊎_elim, arith}
use Rattle.std.specs.List.{list_any, AllByRecursion}
use Rattle.std.proofs.lemmas.Bool.{or_parts, eqb-false}
use Rattle.refusals.specs.declared.Refusal.TheVariants.{LongCode}
use Rattle.weights.specs.declared.weight.Weight.{Ghosts}
use Rattle.plans.specs.declared.plan.Plan.{Plan}
use Rattle.plans.specs.declared.plan.Unit.{Unit}
use Rattle.plans.specs.Model.{model_of, code_of}
use Rattle.codes.specs.Code.{is_code}
use Rattle.sheets.specs.declared.issue.Issue.{Issue}
use Rattle.sheets.specs.declared.issue.Issue.TheVariants.{First, Second}
use Rattle.sheets.specs.Faults.{Named}
use Rattle.sheets.specs.Format.{issue_number, size_of_code}
use Rattle.sheets.proofs.Seen.{six_or_seven}
use Rattle.sheets.proofs.Within.{within}
use Rattle.writers.specs.Written.{has_long_code, Fitting, Refusing}

-- the search for a long code goes through the units
pub long_in : (us : List Unit) → list_any (λ u. eqb (length (code_of u)) 7) us ≡ has_long_code (map code_of us)
long_in [] = refl
long_in (u ∷ us) = ap (λ b. eqb (length (code_of u)) 7 || b) (long_in us)

-- issue 1 takes the codes where none has seven characters, issue 2 all of them
pub fit_first : (texts : List (List ℕ)) → AllByRecursion (λ text. is_code text ≡ true) texts → has_long_code texts ≡ false → AllByRecursion (λ text. length text ≤ 6) texts
fit_first [] codes none = tt
fit_first (t ∷ ts) codes none =
    let p = or_parts (eqb (length t) 7) (has_long_code ts) none in (
      ⊎_elim (λ a. omega arith) (λ b. absurd (eqb-false (length t) 7 p.0 b)) (six_or_seven t codes.0),
      fit_first ts codes.1 p.1,
    )

pub fit_second : (texts : List (List ℕ)) → AllByRecursion (λ text. is_code text ≡ true) texts → AllByRecursion (λ text. length text ≤ 7) texts
fit_second [] codes = tt
fit_second (t ∷ ts) codes = (⊎_elim (λ a. omega arith) (λ b. omega arith) (six_or_seven t codes.0), fit_second ts codes.1)

-- the same of the codes of units
fit : (i : Issue) (us : List Unit) → (i ≡ First → has_long_code (map code_of us) ≡ false) → AllByRecursion (λ text. length text ≤ size_of_code i) (map code_of us)
fit i [] none = tt
fit First (u ∷ us) none =
    let parts = or_parts (eqb (length (code_of u)) 7) (has_long_code (map code_of us)) (none refl) in
    let short = eqb-false (length (code_of u)) 7 parts.0 in
    let size = six_or_seven (code_of u) u.code.code in
    (omega arith, fit First us (λ _. parts.1))
fit Second (u ∷ us) none =
    let size = six_or_seven (code_of u) u.code.code in
    (omega arith, fit Second us (λ e. absurd (cc)))

module _ {W : Type 0} {g : Ghosts W} (p : Plan W g) where
  of_number : (i : Issue) → (i ≡ First → has_long_code (model_of p).codes ≡ false) → Fitting g (model_of p) (issue_number i) i
  of_number First none = record {
    named = refl;
    valid = within p First (fit First (take p.unit_count p.units) none);
    left = λ room. rw (none refl) refl;
  }
  of_number Second none = record {
    named = refl;
    valid = within p Second (fit Second (take p.unit_count p.units) none);
    left = λ room. refl;
  }

  -- issue 1 where no code is long, or issue 2
  pub fitting : (number : ℕ) (i : Issue) → Named number (Ok i) → (i ≡ First → has_long_code (model_of p).codes ≡ false) → Fitting g (model_of p) number i
  fitting number i is none = subst (λ n. Fitting g (model_of p) n i) is.1 (of_number i none)

  -- a long code in issue 1
  pub refusing : (number : ℕ) (i : Issue) → Named number (Ok i) → i ≡ First → has_long_code (model_of p).codes ≡ true → Refusing g (model_of p) number LongCode
  refusing number i is first some = subst (λ n. Refusing g (model_of p) n LongCode) is.1 (rw first (λ room. rw some refl))
