-- What write is refused with, and what stands in the lent bytes after it.
use Rattle.std.specs.Prelude.{◌≡◌, ℕ, Bool, not, ◌&&◌, ◌||◌, List, length, take, drop, IfOk, IfErr, Some, Option, Result, ◌==◌, nat_le}
use Rattle.std.specs.List.{list_any}
use Rattle.refusals.specs.declared.Refusal.{Refusal}
use Rattle.refusals.specs.declared.Refusal.TheVariants.{UnknownIssue, LongCode, ShortMemory}
use Rattle.weights.specs.declared.weight.Weight.{Ghosts}
use Rattle.plans.specs.Calls.{check, accepted, reply_of}
use Rattle.plans.specs.Model.{Model}
use Rattle.sheets.specs.declared.issue.Issue.{Issue}
use Rattle.sheets.specs.Fields.{issue_from}
use Rattle.sheets.specs.Format.{sheet_of, Valid}

-- some code has seven characters
abbrev pub has_long_code : List (List ℕ) → Bool
has_long_code texts = list_any (λ text. length text == 7) texts

module _ {W : Type 0} (g : Ghosts W) (m : Model W) (number : ℕ) where
  -- the sheet of the plan in the issue with that number
  abbrev pub sheet_in : List ℕ
  sheet_in = sheet_of g (issue_from number) m

  -- write into so many bytes: 2, 16, 17
  abbrev pub write_verdict : ℕ → Option Refusal
  write_verdict room =
      check (number == 1 || number == 2) UnknownIssue
      (check (not (number == 1 && has_long_code m.codes)) LongCode
      (check (nat_le (length sheet_in) room) ShortMemory
      accepted))

  -- no issue has the number, or a code does not fit it: write is refused into however many bytes
  abbrev pub Refusing : Refusal → Type 0
  Refusing e = (room : ℕ) → write_verdict room ≡ Some e

  -- the plan can stand in a sheet of the issue with the number: only the room is left to check
  pub record Fitting (issue : Issue) : Type 0 where
    pub named : issue ≡ issue_from number
    pub valid : Valid g issue m
    pub left : (room : ℕ) → write_verdict room ≡ check (nat_le (length sheet_in) room) ShortMemory accepted

  -- what write replies and leaves in the lent bytes
  pub record Written (before : List ℕ) (r : Result ℕ Refusal) (after : List ℕ) : Type 0 where
    pub reply : r ≡ reply_of (write_verdict (length before)) (length sheet_in)
    pub sheet : IfOk r (λ n. take n after ≡ sheet_in)
    -- the bytes beyond the sheet stay, and after a refusal all of them
    pub beyond : IfOk r (λ n. drop n after ≡ drop n before)
    pub same : IfErr r (λ _. after ≡ before)
    -- read, then write in the same issue: whatever bytes are the plan's sheet are the bytes written
    pub again : IfOk r (λ n. (bytes : List ℕ) → bytes ≡ sheet_in → take n after ≡ bytes)
    -- write, then read: what is written is the sheet of a plan within the rules, so it reads back as that plan
    pub valid : IfOk r (λ _. Valid g (issue_from number) m)
