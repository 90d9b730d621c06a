-- Which sums keep the limit, so that no sum of the work is refused.
use Rattle.std.proofs.Common.{◌≡◌, ℕ, true, not, ◌&&◌, eqb, List, [], ◌∷◌, ◌++◌, sym, subst, arith}
use Rattle.std.proofs.lemmas.Bool.Decides.{nat_tests}
use Rattle.cuts.specs.declared.entry.Entry.{Entry}
use Rattle.cuts.specs.Kinds.{Kind, Lawful}
use Rattle.cuts.specs.Links.{Link, Sound}
use Rattle.cuts.specs.Groups.{stands, Joins, joint}
use Rattle.cuts.specs.Tests.{third}
use Rattle.cuts.specs.Sums.{FitsTwice, LinkSums, GroupSums, NoSumRefused}
use Rattle.cuts.proofs.Facts.{sums_fit, joint_sym}
use Rattle.cuts.proofs.Fills.{next_fits}
use Rattle.cuts.proofs.Names.{named}
use Rattle.cuts.proofs.Steps.{degree_joined, joined_fits, gathered_fits, two_joints_fit}

module _ {V : Type 0} (K : Kind V) (laws : Lawful K) (n : ℕ) where
  link_sums : (before rest : List (Link V)) (next : Link V) → Sound K n (before ++ (next ∷ rest)) → next.in_service ≡ true → LinkSums K before next
  link_sums before rest next sound on = record {
    joints = λ a b. next_fits K laws _ n before rest next sound on;
    degrees = λ a. next_fits K laws _ n before rest next sound on;
    divisions = λ S. next_fits K laws _ n before rest next sound on;
  }

  module _ (ls : List (Link V)) (sound : Sound K n ls) (es : List Entry) where
    other : (g k : ℕ) → stands n es k ≡ true → (k ≡ g → ⊥) → (stands n es k && not (eqb k g)) ≡ true
    other g k h apart = grind (arith, nat_tests)

    with_third : (u v w : ℕ) → (u ≡ v → ⊥) → third n es u v w ≡ true → FitsTwice K (joint K ls es u v) (joint K ls es u w) × FitsTwice K (joint K ls es u v) (joint K ls es v w)
    with_third u v w apart h =
        let uw : u ≡ w → ⊥ = grind (arith, nat_tests) in
        let vw : v ≡ w → ⊥ = grind (arith, nat_tests) in (
          (sums_fit K laws n ls sound _ _, two_joints_fit K laws n ls sound es u v w apart uw vw),
          (sums_fit K laws n ls sound _ _, rw (joint_sym K laws n ls sound es u v apart) (two_joints_fit K laws n ls sound es v u w (λ e. apart (sym e)) vw uw)),
        )

    group_sums : Joins n [] es → GroupSums K n ls es
    group_sums joins = record {
      merged = λ u v w. sums_fit K laws n ls sound _ _;
      degrees = λ g k h apart. joined_fits K laws n ls sound es g k (other g k h apart);
      all = λ g. sym (degree_joined K laws n ls sound es (named n es joins) g);
      doubled = λ u v. sums_fit K laws n ls sound _ _;
      triangle = with_third;
      neighbourhood = gathered_fits K laws n ls sound es;
      raised = λ taken v w. sums_fit K laws n ls sound _ _;
    }

pub no_sum_refused : {V : Type 0} (K : Kind V) → Lawful K → NoSumRefused K
no_sum_refused K laws n ls sound = (
  λ before rest next is on. link_sums K laws n before rest next (subst (Sound K n) is sound) on,
  λ es joins. group_sums K laws n ls sound es joins,
)
