-- The work as it goes on.
use Rattle.std.specs.Prelude.{◌≡◌, ℕ, ◌≤◌, List, drop}
use Rattle.weights.specs.declared.weight.Weight.{Ghosts}
use Rattle.cuts.specs.Links.{Link}
use Rattle.cuts.specs.Records.{Point}
use Rattle.contractions.specs.declared.contraction.Contraction.{Contraction}
use Rattle.contractions.specs.Progress.{At, Spared}

-- the work is at the point p, with best for the weight of its best group
abbrev pub IsAt : {W : Type 0} (g : Ghosts W) (n : ℕ) (ls : List (Link g.Value)) → Point → Contraction W → W → Type 0
IsAt g n ls p work best = At g n ls p work.weights.now work.groups (record { best = best; mergers = work.mergers; scans = work.scans }) work.marks.now work.entries.now

-- the memory of the work lies where it lay
pub record SameMemory {W : Type 0} (old new : Contraction W) : Type 0 where
  pub weights : new.weights.ghost_name ≡ old.weights.ghost_name
  pub marks : new.marks.ghost_name ≡ old.marks.ghost_name
  pub entries : new.entries.ghost_name ≡ old.entries.ghost_name

-- the work went on from one moment to another: over as many units, with no fewer mergers and scans, and with the memory past
-- what it may write as it was
pub record GoneOn {W : Type 0} (old new : Contraction W) : Type 0 where
  pub lies : SameMemory old new
  pub units : new.groups.units ≡ old.groups.units
  pub mergers : old.mergers ≤ new.mergers
  pub scans : old.scans ≤ new.scans
  pub spared : Spared old.groups.units new.mergers old.weights.now new.weights.now old.marks.now new.marks.now old.entries.now new.entries.now

-- of the work nothing changed but the marks of its units
pub record OnlyMarks {W : Type 0} (old new : Contraction W) : Type 0 where
  pub lies : SameMemory old new
  pub weights : new.weights.now ≡ old.weights.now
  pub groups : new.groups ≡ old.groups
  pub entries : new.entries.now ≡ old.entries.now
  pub mergers : new.mergers ≡ old.mergers
  pub scans : new.scans ≡ old.scans
  pub rest : drop old.groups.units new.marks.now ≡ drop old.groups.units old.marks.now
