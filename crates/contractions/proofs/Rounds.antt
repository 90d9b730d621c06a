-- A round of the work: a merger by a test, or a scan with the mergers of what it finds.
use Rattle.std.proofs.Common.{◌≡◌, ℕ, ◌+◌, ◌<◌, ◌≤◌, true, false, List, length, sym, ap, ◌∙◌, subst, arith}
use Rattle.weights.specs.declared.weight.Weight.{Ghosts}
use Rattle.cuts.specs.declared.entry.Entry.{Entry}
use Rattle.cuts.specs.declared.ground.Ground.{Ground}
use Rattle.cuts.specs.Kinds.{kind_of, Lawful}
use Rattle.cuts.specs.Links.{Link}
use Rattle.cuts.specs.Groups.{stands}
use Rattle.cuts.specs.Tests.{First, None}
use Rattle.cuts.specs.Scans.{found}
use Rattle.cuts.specs.Records.{Point, merger, ended, merge, merge_found, next_scan, scanned, Work, test, scan}
use Rattle.cuts.proofs.Finds.{scan_merges_lem}
use Rattle.cuts.proofs.Noted.{noted_same}
use Rattle.tables.specs.declared.graph.Graph.{Graph}
use Rattle.tables.specs.declared.groups.Groups.{Groups}
use Rattle.tables.specs.Meaning.{Explains, ExplainsIn}
use Rattle.scans.specs.Scanned.{Scanned}
use Rattle.contractions.specs.declared.progress.Progress.{Progress}
use Rattle.contractions.specs.Progress.{At}
use Rattle.contractions.proofs.Founds.{merger_stands}

module _ {W : Type 0} (g : Ghosts W) (n : ℕ) (ls : List (Link g.Value)) (p : Point)
    (table : List W) (groups : Groups) (progress : Progress W) (marks : List ℕ) (entries : List Entry)
    (was : At g n ls p table groups progress marks entries) where
  -- the weights and the groups, as a pass or a scan sees them
  pub seen : (graph : Graph W) → graph.weights.now ≡ table → graph.groups.now ≡ groups → (graph.groups.now.units ≡ n) × ExplainsIn g ls p.done graph
  seen graph weights same = (ap (λ (gs : Groups). gs.units) same ∙ was.explains.tracks.units, rw (same, weights) (subst (λ m. Explains g m ls p.done table groups) (sym was.explains.tracks.units) was.explains))

  -- one scan more
  pub at_scan : At g n ls (next_scan (kind_of g) n ls p) table groups (record { best = progress.best; mergers = progress.mergers; scans = progress.scans + 1 }) marks entries
  at_scan = record {
    explains = was.explains;
    best = was.best;
    scans = ap (λ k. k + 1) was.scans;
    mergers = was.mergers;
    record_is = was.record_is;
    marks_are = was.marks_are;
  }

  module _ (work : Work (kind_of g) n ls p) (on : ended (kind_of g) n ls p ≡ false) where
    -- the first pair that meets a test stands, and may be merged
    module _ (u v : ℕ) (ground : Ground) (first : First (kind_of g) n ls p.done (g.value progress.best) u v ground) (e : Entry) (e-is : e ≡ merger u v ground 0) where
      pub first_stands : (e.low < e.high) × (stands n p.done e.low ≡ true) × (stands n p.done e.high ≡ true)
      first_stands = let (one, other, less, joined) = first.pair in merger_stands n p.done u v e ground 0 e-is one other (λ h. omega arith)

      pub test_work : Work (kind_of g) n ls (merge (kind_of g) n ls p e)
      test_work = subst (λ d. Work (kind_of g) n ls (merge (kind_of g) n ls p d)) (sym e-is) (test work on u v ground (subst (λ b. First (kind_of g) n ls p.done b u v ground) was.best first))

    -- where no pair meets one, what a scan finds is merged
    module _ (laws : Lawful (kind_of g)) (two : 2 ≤ n) (none : None (kind_of g) n ls p.done (g.value progress.best)) (pairs : List (ℕ × ℕ)) (finds : Scanned (kind_of g) n ls p.done (g.value progress.best) pairs) where
      came : scanned (kind_of g) n ls finds.taken p ≡ merge_found (kind_of g) n ls pairs (next_scan (kind_of g) n ls p)
      came =
          ap (λ b. merge_found (kind_of g) n ls (found (kind_of g) n ls p.done b finds.taken) (next_scan (kind_of g) n ls p)) (sym was.best)
          ∙ sym (noted_same (kind_of g) n ls (found (kind_of g) n ls p.done (g.value progress.best) finds.taken) (next_scan (kind_of g) n ls p))
          ∙ ap (λ fs. merge_found (kind_of g) n ls fs (next_scan (kind_of g) n ls p)) (sym finds.pairs_are)

      pub scan_work : Work (kind_of g) n ls (merge_found (kind_of g) n ls pairs (next_scan (kind_of g) n ls p))
      scan_work = subst (Work (kind_of g) n ls) came (scan work on (subst (None (kind_of g) n ls p.done) was.best none) finds.taken finds.order finds.complete)

      pub scan_more : length p.done < length (merge_found (kind_of g) n ls pairs (next_scan (kind_of g) n ls p)).done
      scan_more = subst (λ q. length p.done < length q.done) came (scan_merges_lem (kind_of g) laws n ls was.explains.sound two p work on finds.taken finds.order finds.complete)
