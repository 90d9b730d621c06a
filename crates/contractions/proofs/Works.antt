-- The work from its start to its end.
use Rattle.std.proofs.Common.{◌≡◌, ℕ, ◌<◌, true, cond, eqb, List, [], get_or, take, sym, refl, ap, ◌∙◌, subst, ⊎_elim, arith, ◌≤◌}
use Rattle.std.proofs.lemmas.Bool.{cases_lt}
use Rattle.weights.specs.declared.weight.Weight.{Ghosts}
use Rattle.cuts.specs.declared.entry.Entry.{Entry}
use Rattle.cuts.specs.Kinds.{kind_of}
use Rattle.cuts.specs.Links.{Link, Sound}
use Rattle.cuts.specs.Divisions.{turned}
use Rattle.cuts.specs.Groups.{group}
use Rattle.cuts.specs.Outcomes.{Outcome}
use Rattle.cuts.specs.Records.{Point, ended, Work}
use Rattle.cuts.proofs.Names.{stands_from}
use Rattle.tables.specs.declared.groups.Groups.{Groups}
use Rattle.tables.specs.Meaning.{at, Tracks, Holds}
use Rattle.contractions.specs.declared.progress.Progress.{Progress}
use Rattle.contractions.specs.Progress.{Marks, At}

module _ {W : Type 0} (g : Ghosts W) (n : ℕ) (ls : List (Link g.Value)) where
  -- at the start each unit is a group, and the lightest is best
  pub at_start : (table : List W) (groups : Groups) (best : W) (marks : List ℕ) (entries : List Entry) (u : ℕ) → u < n → Sound (kind_of g) n ls → Holds g n ls [] table → Tracks n [] groups
      → g.value best ≡ at g table n u u → Marks n (λ x. eqb (get_or groups.names x 0) u) marks
      → At g n ls (record { done = []; best = group [] u; scans = 0 }) table groups (record { best = best; mergers = 0; scans = 0 }) marks entries
  at_start table groups best marks entries u unit sound holds tracks weighs marked = record {
    explains = record { sound = sound; joins = tt; holds = holds; tracks = tracks };
    best = weighs ∙ holds.degrees u (stands_from n [] u unit refl);
    scans = refl;
    mergers = refl;
    record_is = refl;
    marks_are = λ x l. marked x l ∙ ap (λ k. cond (eqb k u) 1 0) (tracks.names x l);
  }

  -- where the work ends, with its marks turned over
  pub at_end : (p : Point) (table : List W) (groups : Groups) (progress : Progress W) (marks marks' : List ℕ) (entries : List Entry) → At g n ls p table groups progress marks entries → Work (kind_of g) n ls p → ended (kind_of g) n ls p ≡ true
      → Marks n (turned p.best) marks' → Outcome (kind_of g) n ls (g.value progress.best) marks' (take progress.mergers entries) progress.scans
  at_end p table groups progress marks marks' entries was work over marked = record {
    end = p;
    allowed = work;
    ends = over;
    figure_is = sym was.best;
    marks_are = marked;
    entries_are = sym was.record_is;
    scans_are = sym was.scans;
  }

-- the queue after a round is emptied where there was a scan so far
pub scanned_next : {Q : Type 0} (E : Q → Type 0) (before after : ℕ) (old new : Q) → before ≤ after → (after ≡ before → new ≡ old) → (before < after → E new) → (0 < before → E old) → 0 < after → E new
scanned_next E before after old new later same more was some =
    ⊎_elim more (λ (le : after ≤ before). let e : after ≡ before = omega arith in subst E (sym (same e)) (was (omega arith))) (cases_lt before after)
