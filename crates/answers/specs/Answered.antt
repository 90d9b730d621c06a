-- What weakest and trial are refused with, and what they answer and leave behind.
use Rattle.std.specs.Prelude.{◌≡◌, ℕ, ◌*◌, Bool, true, false, ◌&&◌, List, length, take, drop, Some, Ok, Err, Option, Result, nat_le, nat_lt}
use Rattle.refusals.specs.declared.Refusal.{Refusal}
use Rattle.refusals.specs.declared.Refusal.TheVariants.{NoDivision, NoSuchLink, ShortMemory}
use Rattle.weights.specs.declared.weight.Weight.{Ghosts}
use Rattle.cuts.specs.declared.entry.Entry.{Entry}
use Rattle.cuts.specs.Divisions.{weight_of, Weakest}
use Rattle.cuts.specs.Kinds.{kind_of}
use Rattle.plans.specs.Calls.{accepted, check}
use Rattle.plans.specs.Divided.{links_of, side_of}
use Rattle.plans.specs.Marks.{Untouched}
use Rattle.plans.specs.Model.{Model, marked, model_of}
use Rattle.filings.specs.declared.filing.Filing.{Filing}
use Rattle.solvers.specs.declared.answer.Answer.{Answer}
use Rattle.solvers.specs.Answers.{LeftBehind, WorkedOut}

-- the lent memory has one mark and one record entry for each of n units, and n × n weights
abbrev pub enough : ℕ → ℕ → ℕ → ℕ → Bool
enough n marks entries weights = nat_le n marks && (nat_le n entries && nat_le (n * n) weights)

module _ {W : Type 0} (m : Model W) where
  -- weakest: 15 below two units, then 17
  abbrev pub weakest_verdict : ℕ → ℕ → ℕ → Option Refusal
  weakest_verdict marks entries weights =
      check (nat_le 2 (length m.codes)) NoDivision
      (check (enough (length m.codes) marks entries weights) ShortMemory
      accepted)

  -- trial: 13, 17
  abbrev pub trial_verdict : ℕ → ℕ → ℕ → ℕ → Option Refusal
  trial_verdict k marks entries weights =
      check (nat_lt k (length m.links)) NoSuchLink
      (check (enough (length m.codes) marks entries weights) ShortMemory
      accepted)

-- the reply is an answer exactly where the call is accepted, else its refusal
abbrev pub Judged : {X : Type 0} → Option Refusal → Result X Refusal → Type 0
Judged verdict (Ok x) = verdict ≡ accepted
Judged verdict (Err e) = verdict ≡ Some e

-- no division of the plan weighs less than the figure, and the one that the marks give weighs just that; unit 0 is not marked
pub record Least {W : Type 0} (g : Ghosts W) (m : Model W) (figure : g.Value) (marks : List ℕ) : Type 0 where
  pub weakest : Weakest (kind_of g) (length m.codes) (links_of g m) (side_of marks)
  pub weighs : weight_of (kind_of g) (links_of g m) (side_of marks) ≡ figure
  pub unit_0 : side_of marks 0 ≡ false

-- the memory that is lent for an answer: marks, record entries and weights
pub record Memory (W : Type 0) : Type 0 where
  pub marks : List ℕ
  pub entries : List Entry
  pub weights : List W

abbrev pub memory : {W : Type 0} → List ℕ → List Entry → List W → Memory W
memory marks entries weights = record { marks = marks; entries = entries; weights = weights }

module _ {W : Type 0} (g : Ghosts W) (before after : Filing W g) (lent left : Memory W) (a : Answer W) where
  -- kept marks are answered with their present weight, without mergers or scans, and only the marks are written
  pub record FromKept : Type 0 where
    pub kept : a.kept ≡ true
    pub mergers : a.mergers ≡ 0
    pub scans : a.scans ≡ 0
    pub figure : g.value a.figure ≡ weight_of (kind_of g) (links_of g (model_of before.plan)) (side_of before.kept.sides)
    pub front : take (length (model_of before.plan).codes) left.marks ≡ take (length (model_of before.plan).codes) before.kept.sides
    pub rest : drop (length (model_of before.plan).codes) left.marks ≡ drop (length (model_of before.plan).codes) lent.marks
    pub entries : left.entries ≡ lent.entries
    pub weights : left.weights ≡ lent.weights
    pub filing : after ≡ before

  -- the answer is worked out, and its marks are kept
  pub record WorkedKept : Type 0 where
    pub answer : WorkedOut g (model_of before.plan) a left.marks left.entries
    pub behind : LeftBehind g (length (model_of before.plan).codes) a.mergers lent.weights left.weights lent.marks left.marks lent.entries left.entries
    pub plan : after.plan ≡ before.plan
    pub kept : after.kept.kept ≡ true
    pub sides : take (length (model_of before.plan).codes) after.kept.sides ≡ take (length (model_of before.plan).codes) left.marks

  -- the answer is worked out with link k out of service; plan and kept marks are as they were
  pub record Tried (k : ℕ) : Type 0 where
    pub answer : WorkedOut g (marked k false (model_of before.plan)) a left.marks left.entries
    pub behind : LeftBehind g (length (model_of before.plan).codes) a.mergers lent.weights left.weights lent.marks left.marks lent.entries left.entries
    pub plan : Untouched before.plan after.plan
    pub kept : after.kept ≡ before.kept

-- a refused call leaves the filing and all lent memory as they were
abbrev pub Unchanged : {W : Type 0} {g : Ghosts W} → Filing W g → Filing W g → Memory W → Memory W → Type 0
Unchanged before after lent left = (after ≡ before) × (left ≡ lent)
