-- What each call on a plan is refused with, and what it does otherwise.
use Rattle.std.specs.Prelude.{◌≡◌, ℕ, ◌+◌, Bool, cond, not, ◌&&◌, List, length, IfErr, Some, None, Ok, Err, Option, Result, ◌==◌, nat_le, nat_lt}
use Rattle.std.specs.List.{remove}
use Rattle.refusals.specs.declared.Refusal.{Refusal}
use Rattle.refusals.specs.declared.Refusal.TheVariants.{NotACode, CodeTaken, Full, NoSuchUnit, SelfLink, NoWeight, OverLimit, NoSuchLink, BadMark}
use Rattle.weights.specs.declared.weight.Weight.{Ghosts}
use Rattle.codes.specs.Code.{is_code}
use Rattle.plans.specs.declared.plan.Plan.{Plan}
use Rattle.plans.specs.Model.{Model, model_of, borne_by_other}
pub use Rattle.plans.specs.Sound.{most_links, most_total, most_units}
use Rattle.plans.specs.Sound.{amount_of, total_of}

-- A verdict is the refusal of the first check that fails, or none where the call is accepted.
abbrev pub check : Bool → Refusal → Option Refusal → Option Refusal
check ok e rest = cond ok rest (Some e)

abbrev pub accepted : Option Refusal
accepted = None

module _ {W : Type 0} (m : Model W) where
  -- enter: 7, 8, 6; the unit gets the number after the last one
  abbrev pub enter_verdict : List ℕ → Option Refusal
  enter_verdict text =
      check (is_code text) NotACode
      (check (not (borne_by_other (length m.codes) text m.codes)) CodeTaken
      (check (nat_lt (length m.codes) most_units) Full
      accepted))

  -- recode: 9, 7, 8
  abbrev pub recode_verdict : ℕ → List ℕ → Option Refusal
  recode_verdict k text =
      check (nat_lt k (length m.codes)) NoSuchUnit
      (check (is_code text) NotACode
      (check (not (borne_by_other k text m.codes)) CodeTaken
      accepted))

  -- link: 9, 10, 11, 6, 12; only nothing has amount 0
  abbrev pub link_verdict : Ghosts W → ℕ → ℕ → W → Option Refusal
  link_verdict g a b w =
      check (nat_lt a (length m.codes) && nat_lt b (length m.codes)) NoSuchUnit
      (check (not (a == b)) SelfLink
      (check (not (amount_of g w == 0)) NoWeight
      (check (nat_lt (length m.links) most_links) Full
      (check (nat_le (total_of g m.links + amount_of g w) most_total) OverLimit
      accepted))))

  -- strike: 13
  abbrev pub strike_verdict : ℕ → Option Refusal
  strike_verdict k = check (nat_lt k (length m.links)) NoSuchLink accepted

  -- reweigh: 13, 11, 12; the other links count as they are
  abbrev pub reweigh_verdict : Ghosts W → ℕ → W → Option Refusal
  reweigh_verdict g k w =
      check (nat_lt k (length m.links)) NoSuchLink
      (check (not (amount_of g w == 0)) NoWeight
      (check (nat_le (total_of g (remove m.links k) + amount_of g w) most_total) OverLimit
      accepted))

  -- mark: 13, 14
  abbrev pub mark_verdict : ℕ → ℕ → Option Refusal
  mark_verdict k b = check (nat_lt k (length m.links)) NoSuchLink (check (nat_lt b 2) BadMark accepted)

-- the reply to a call: the answer where it is accepted
abbrev pub reply_of : {X : Type 0} → Option Refusal → X → Result X Refusal
reply_of None x = Ok x
reply_of (Some e) x = Err e

-- what stands after a call: the new where it is accepted, else the old
abbrev pub after_of : {X : Type 0} → Option Refusal → X → X → X
after_of None new old = new
after_of (Some e) new old = old

-- A call with this verdict and answer, by which the model becomes `next`: what it replies and leaves behind.
-- After a refusal the plan and its lent memory are exactly as before.
pub record Called {W X : Type 0} {g : Ghosts W} (verdict : Option Refusal) (answer : X) (next : Model W) (before : Plan W g) (r : Result X Refusal) (after : Plan W g) : Type 0 where
  pub reply : r ≡ reply_of verdict answer
  pub model : model_of after ≡ after_of verdict next (model_of before)
  pub same : IfErr r (λ _. after ≡ before)

-- A call that only answers: the refusal of its verdict, or a reply that stands for the answer.
abbrev pub Answered : {X V : Type 0} → Option Refusal → (X → V) → V → Result X Refusal → Type 0
Answered verdict meaning answer (Ok x) = (verdict ≡ accepted) × (meaning x ≡ answer)
Answered verdict meaning answer (Err e) = verdict ≡ Some e
