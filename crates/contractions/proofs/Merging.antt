-- The memory of the work after one merger more.
use Rattle.std.proofs.Common.{◌≡◌, ℕ, ◌+◌, ◌<◌, Bool, true, false, cond, eqb, List, [], ◌∷◌, ◌++◌, length, get_or, take, set, sym, refl, ap, ◌∙◌, subst, arith}
use Rattle.std.proofs.lemmas.List.{take_more_set}
use Rattle.std.proofs.lemmas.Bool.Decides.{nat_tests}
use Rattle.weights.specs.declared.weight.Weight.{Ghosts}
use Rattle.cuts.specs.declared.entry.Entry.{Entry}
use Rattle.cuts.specs.Kinds.{kind_of}
use Rattle.cuts.specs.Links.{Link}
use Rattle.cuts.specs.Divisions.{weight_of}
use Rattle.cuts.specs.Groups.{group, stands, Joins}
use Rattle.cuts.specs.Records.{Point, better, merge}
use Rattle.cuts.proofs.Names.{named, named_more, joins_more, stands_more}
use Rattle.cuts.proofs.Mergers.{length_more}
use Rattle.tables.specs.declared.groups.Groups.{Groups}
use Rattle.tables.specs.Meaning.{at, Tracks, Holds, Explains}
use Rattle.contractions.specs.declared.progress.Progress.{Progress}
use Rattle.contractions.specs.Progress.{Marks, At}

-- two groups that stand leave room for a merger
pub merger_room : (n : ℕ) (es : List Entry) (e : Entry) → Joins n [] es → stands n es e.low ≡ true → stands n es e.high ≡ true → e.low < e.high → length es < n
merger_room n es e joins low high less = let after = (named_more n es e (named n es joins) low high less).fewer in let one = length_more es e in omega arith

module _ {W : Type 0} (g : Ghosts W) (n : ℕ) (ls : List (Link g.Value)) (p : Point) (e : Entry)
    (table table' : List W) (groups groups' : Groups) (progress : Progress W) (marks : List ℕ) (entries : List Entry)
    (was : At g n ls p table groups progress marks entries)
    (low : stands n p.done e.low ≡ true) (high : stands n p.done e.high ≡ true) (less : e.low < e.high)
    (holds : Holds g n ls (p.done ++ (e ∷ [])) table') (tracks : Tracks n (p.done ++ (e ∷ [])) groups')
    (room : progress.mergers < length entries) where
  explained : Explains g n ls (p.done ++ (e ∷ [])) table' groups'
  explained = record { sound = was.explains.sound; joins = joins_more n [] p.done e was.explains.joins low high less; holds = holds; tracks = tracks }

  stays : stands n (p.done ++ (e ∷ [])) e.low ≡ true
  stays = stands_more n p.done e (named n p.done was.explains.joins) low high less e.low ∙ rw low (grind (arith, nat_tests))

  weighs : at g table' n e.low e.low ≡ weight_of (kind_of g) ls (group (p.done ++ (e ∷ [])) e.low)
  weighs = holds.degrees e.low stays

  compared : (b : Bool) → g.le (g.value progress.best) (at g table' n e.low e.low) ≡ b → cond b p.best (group (p.done ++ (e ∷ [])) e.low) ≡ better (kind_of g) n ls p.best (group (p.done ++ (e ∷ [])) e.low)
  compared b h =
      ap (λ t. cond t p.best (group (p.done ++ (e ∷ [])) e.low))
      (sym h ∙ ap (g.le (g.value progress.best)) weighs ∙ ap (λ v. g.le v (weight_of (kind_of g) ls (group (p.done ++ (e ∷ [])) e.low))) was.best)

  -- the merged group becomes best, and is marked, exactly where it is strictly lighter
  module _ (progress' : Progress W) (marks' : List ℕ) (mergers : progress'.mergers ≡ progress.mergers + 1) (scans : progress'.scans ≡ progress.scans)
      (kept : g.le (g.value progress.best) (at g table' n e.low e.low) ≡ true → (progress'.best ≡ progress.best) × (marks' ≡ marks))
      (lighter : g.le (g.value progress.best) (at g table' n e.low e.low) ≡ false → (g.value progress'.best ≡ at g table' n e.low e.low) × Marks n (λ x. eqb (get_or groups'.names x 0) e.low) marks') where
    best_at : (b : Bool) → g.le (g.value progress.best) (at g table' n e.low e.low) ≡ b
        → (g.value progress'.best ≡ weight_of (kind_of g) ls (cond b p.best (group (p.done ++ (e ∷ [])) e.low))) × Marks n (cond b p.best (group (p.done ++ (e ∷ [])) e.low)) marks'
    best_at true h = (ap g.value (kept h).0 ∙ was.best, λ x l. ap (λ ms. get_or ms x 0) (kept h).1 ∙ was.marks_are x l)
    best_at false h = ((lighter h).0 ∙ weighs, λ x l. (lighter h).1 x l ∙ ap (λ k. cond (eqb k e.low) 1 0) (tracks.names x l))

    pub at_merged : At g n ls (merge (kind_of g) n ls p e) table' groups' progress' marks' (set entries progress.mergers e)
    at_merged =
        let b = g.le (g.value progress.best) (at g table' n e.low e.low) in
        let now = subst (λ S. (g.value progress'.best ≡ weight_of (kind_of g) ls S) × Marks n S marks') (compared b refl) (best_at b refl) in
        record {
          explains = explained;
          best = now.0;
          scans = scans ∙ was.scans;
          mergers = let m = was.mergers in let one = length_more p.done e in omega arith;
          record_is = ap (λ k. take k (set entries progress.mergers e)) mergers ∙ take_more_set entries progress.mergers e room ∙ ap (λ es. es ++ (e ∷ [])) was.record_is;
          marks_are = now.1;
        }
