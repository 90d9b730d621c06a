-- The worked plans are right, each by computing: every division is tried, and the record is replayed.
use Rattle.std.proofs.Common.{◌≡◌, ℕ, ◌+◌, true, cond, ◌&&◌, eqb, leb, List, [], ◌∷◌, get_or, refl}
use Rattle.std.proofs.lemmas.Bool.{eqb-true}
use Rattle.weights.specs.Laws.{limit}
use Rattle.weights.specs.Kept.{plain_laws, ranked_laws}
use Rattle.cuts.specs.declared.ground.Ground.TheVariants.{Heavy, Unbalanced, Triangle, Neighbourhood}
use Rattle.cuts.specs.Kinds.{Kind, Lawful}
use Rattle.cuts.specs.Links.{sum, load}
use Rattle.cuts.specs.Divisions.{turned, weight_of}
use Rattle.cuts.specs.Outcomes.{marking}
use Rattle.cuts.specs.Records.{Point, best_weight, ended}
use Rattle.cuts.specs.Worked.{Worked, Right, AllRight, plain, ranked, plain_cases, ranked_cases}
use Rattle.cuts.proofs.Brute.{all_below, all_true, any_below, every, divides, least_by_trial, ends_by_trial, sound_by_trial, figure_sound}
use Rattle.cuts.proofs.Replays.{Step, tested, scanning, meets, pair, free, none_under, none_of, before, first_by_trial, order_by_trial, complete_by_trial, lightest_by_trial, allowed, after_step, all_allowed, replayed, first_point, replay_sound}

-- one rule for every worked plan: the lightest unit and the steps are given, and all else is computed
module _ {V : Type 0} (K : Kind V) (laws : Lawful K) (c : Worked V) (start : ℕ) (steps : List Step) where
  abbrev last : Point
  last = replayed K c.units c.links steps (first_point K c.units c.links start)

  rule : (ends_by_trial c.units c.links && leb (load K c.links + load K c.links) limit) ≡ true
      → (divides c.units (marking c.marks) && least_by_trial K c.units c.links (weight_of K c.links (marking c.marks))) ≡ true
      → (lightest_by_trial K c.units c.links start && all_allowed K c.units c.links steps (first_point K c.units c.links start)) ≡ true
      → ended K c.units c.links last ≡ true
      → all_below c.units (λ x. eqb (get_or c.marks x 0) (cond (turned last.best x) 1 0)) ≡ true
      → weight_of K c.links (marking c.marks) ≡ c.figure → best_weight K c.units c.links last ≡ c.figure → last.done ≡ c.entries → last.scans ≡ c.scans → Right K c
  rule sound least replay over marks weighs figure entries scans = record {
    weakest = figure_sound K laws c.units c.links (sound_by_trial K c.units c.links sound) (marking c.marks) least;
    weighs = weighs;
    outcome = record {
      end = last;
      allowed = replay_sound K c.units c.links start steps replay;
      ends = over;
      figure_is = figure;
      marks_are = λ x l. eqb-true _ _ (all_true c.units _ marks x l);
      entries_are = entries;
      scans_are = scans;
    };
  }

pub plain_right : AllRight plain plain_cases
unfolding sum load all_below any_below every divides least_by_trial ends_by_trial meets pair free none_under none_of before first_by_trial order_by_trial complete_by_trial lightest_by_trial allowed after_step all_allowed replayed first_point
plain_right = (
  rule plain plain_laws _ 1 (tested 0 1 Unbalanced ∷ tested 0 2 Triangle ∷ []) refl refl refl refl refl refl refl refl refl,
  (
    rule plain plain_laws _ 2 (tested 0 1 Heavy ∷ tested 0 2 Heavy ∷ []) refl refl refl refl refl refl refl refl refl,
    (
      rule plain plain_laws _ 1 (tested 0 1 Unbalanced ∷ tested 0 2 Triangle ∷ []) refl refl refl refl refl refl refl refl refl,
      (
        rule plain plain_laws _ 1 (tested 0 1 Heavy ∷ tested 0 3 Heavy ∷ []) refl refl refl refl refl refl refl refl refl,
        (
          rule plain plain_laws _ 1 (tested 0 1 Unbalanced ∷ tested 0 2 Unbalanced ∷ []) refl refl refl refl refl refl refl refl refl,
          (
            rule plain plain_laws _ 2 (tested 0 1 Heavy ∷ tested 0 2 Heavy ∷ tested 0 3 Heavy ∷ []) refl refl refl refl refl refl refl refl refl,
            (
              rule plain plain_laws _ 0 [] refl refl refl refl refl refl refl refl refl,
              (
                rule plain plain_laws _ 1 (tested 0 3 Neighbourhood ∷ tested 0 1 Heavy ∷ tested 0 2 Heavy ∷ []) refl refl refl refl refl refl refl refl refl,
                (
                  rule plain plain_laws _ 0 (scanning (5 ∷ 2 ∷ 4 ∷ 1 ∷ 3 ∷ 0 ∷ []) ∷ tested 0 2 Triangle ∷ tested 0 1 Triangle ∷ tested 0 3 Heavy ∷ []) refl refl refl refl refl refl refl refl refl,
                  (
                    rule plain plain_laws _ 0 (scanning (0 ∷ 3 ∷ 1 ∷ 4 ∷ 2 ∷ 5 ∷ []) ∷ tested 0 1 Triangle ∷ tested 0 2 Triangle ∷ tested 0 4 Heavy ∷ []) refl refl refl refl refl refl refl refl refl,
                    (
                      rule plain plain_laws _ 1 (scanning (1 ∷ 4 ∷ 5 ∷ 3 ∷ 2 ∷ 0 ∷ []) ∷ tested 0 1 Heavy ∷ []) refl refl refl refl refl refl refl refl refl,
                      tt,
                    ),
                  ),
                ),
              ),
            ),
          ),
        ),
      ),
    ),
  ),
)

pub ranked_right : AllRight ranked ranked_cases
unfolding sum load all_below any_below every divides least_by_trial ends_by_trial meets pair free none_under none_of before first_by_trial order_by_trial complete_by_trial lightest_by_trial allowed after_step all_allowed replayed first_point
ranked_right = (rule ranked ranked_laws _ 2 (tested 0 1 Heavy ∷ []) refl refl refl refl refl refl refl refl refl, tt)
