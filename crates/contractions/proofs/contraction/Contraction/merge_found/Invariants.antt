use Rattle.std.proofs.Common.{◌≡◌, ℕ, List, take}
use Rattle.cuts.specs.Kinds.{kind_of}
use Rattle.cuts.specs.Links.{Link}
use Rattle.cuts.specs.Records.{Point, merge_found}
use Rattle.scans.specs.Scanned.{pairs_of}
use Rattle.contractions.specs.Working.{GoneOn, IsAt}
use Rattle.contractions.proofs.contraction.Contraction.merge_found.Given as goal

abbrev pub invariant-loop-first : goal.invariant-loop-first
invariant-loop-first g l =
    let w = g.W.Weight in record {
      on : GoneOn l.initial.self l.self;
      scans : l.self.scans ≡ l.initial.self.scans;
      at : (n : ℕ) (ls : List (Link w.Value)) (p : Point) → IsAt w n ls p l.initial.self l.initial.best → IsAt w n ls (merge_found (kind_of w) n ls (take l.first-index (pairs_of l.found)) p) l.self l.best;
    }
