-- What an answer that is worked out says of a plan, and what it leaves in memory.
use Rattle.std.specs.Prelude.{◌≡◌, ℕ, ◌*◌, ◌<◌, ◌≤◌, false, List, length, take, Option}
use Rattle.weights.specs.declared.weight.Weight.{Ghosts}
use Rattle.cuts.specs.declared.entry.Entry.{Entry}
use Rattle.cuts.specs.Kinds.{kind_of}
use Rattle.cuts.specs.Outcomes.{Outcome, Promised}
use Rattle.queues.specs.Keys.{Empty}
use Rattle.plans.specs.Divided.{links_of}
use Rattle.plans.specs.Model.{Model}
use Rattle.tables.specs.Meaning.{value_at}
use Rattle.contractions.specs.Progress.{Spared}
use Rattle.solvers.specs.declared.answer.Answer.{Answer}

-- the answer was worked out for the plan m: the rules allow its record, which ends with its figure, marks and scans; so
-- no division weighs less than the figure, and the marks give one that weighs just that
pub record WorkedOut {W : Type 0} (g : Ghosts W) (m : Model W) (answer : Answer W) (marks : List ℕ) (entries : List Entry) : Type 0 where
  pub new : answer.kept ≡ false
  pub room : answer.mergers ≤ length entries
  pub allowed : Outcome (kind_of g) (length m.codes) (links_of g m) (g.value answer.figure) marks (take answer.mergers entries) answer.scans
  pub promised : Promised (kind_of g) (length m.codes) (links_of g m) (g.value answer.figure) marks (take answer.mergers entries)

-- the n × n weights end as nothing, and memory past them, past n marks and past the mergers is as it was
pub record LeftBehind {W : Type 0} (g : Ghosts W) (n mergers : ℕ) (table table' : List W) (marks marks' : List ℕ) (entries entries' : List Entry) : Type 0 where
  pub nothing : (i : ℕ) → i < n * n → value_at g table' i ≡ g.zero
  pub spared : Spared n mergers table table' marks marks' entries entries'

-- scans leave the queue empty, and without a scan it is as it was
pub record QueueLeft {Q W : Type 0} (key : Q → ℕ → Option W) (scans : ℕ) (before after : Q) : Type 0 where
  pub unscanned : scans ≡ 0 → after ≡ before
  pub scanned : 0 < scans → Empty (key after)
