-- Each ground is safe: over the plan's own links, for divisions that keep the groups whole.
use Rattle.std.proofs.Common.{◌≡◌, ℕ, ◌≤◌, Bool, true, ltb, List, [], ◌∷◌, sym, ap, ◌∙◌, inl, inr, ⊎_elim, arith}
use mathlib.Core.Path.{fun_ext}
use Rattle.std.proofs.lemmas.Bool.Decides.{nat_tests}
use Rattle.std.proofs.lemmas.Bool.{ltb-true}
use Rattle.weights.specs.Laws.{limit}
use Rattle.cuts.specs.declared.entry.Entry.{Entry}
use Rattle.cuts.specs.declared.ground.Ground.{Ground}
use Rattle.cuts.specs.declared.ground.Ground.TheVariants.{Heavy, Unbalanced, Triangle, Neighbourhood, Scan}
use Rattle.cuts.specs.Kinds.{Kind, Lawful, AtMost}
use Rattle.cuts.specs.Links.{Link, Sound}
use Rattle.cuts.specs.Divisions.{Division, weight_of}
use Rattle.cuts.specs.Groups.{after, stands, Whole, degree}
use Rattle.cuts.specs.Tests.{third, Meets}
use Rattle.cuts.specs.Scans.{Order, Capped}
use Rattle.cuts.specs.Claims.{LosesNothing, GroundsSafe, ScanSafe, OrderSafe}
use Rattle.cuts.proofs.Rules.{cuts, relabel, Over, cut}
use Rattle.cuts.proofs.Sums.{weigh_relabel}
use Rattle.cuts.proofs.Served.{served, served_over, links_at, light_at, weight_cut, degree_deg, joint_tie, key_pull, gathered_gather}
use Rattle.cuts.proofs.Names.{Named, named, lands, stands_less, stands_own, whole_own, own_whole}
use Rattle.cuts.proofs.Moves.{Splits, Safe, turned_safe, tie_sym, heavy_safe, unbalanced_safe, triangle_safe}
use Rattle.cuts.proofs.Neighbours.{neighbourhood_safe}
use Rattle.cuts.proofs.Ordered.{Taken, capped_scan}

over_relabel : {V : Type 0} (G H : ℕ → Bool) (f : ℕ → ℕ) (ls : List (ℕ × ℕ × V)) → ((x : ℕ) → G x ≡ true → H (f x) ≡ true) → Over G ls → Over H (relabel f ls)
over_relabel G H f [] h o = tt
over_relabel G H f (l ∷ ls) h o = (h l.0 o.0, h l.1 o.1, over_relabel G H f ls h o.2)

module _ {V : Type 0} (K : Kind V) (laws : Lawful K) (n : ℕ) (ls : List (Link V)) (sound : Sound K n ls) (es : List Entry) (names : Named n es) where
  pub over_at : Over (stands n es) (links_at ls es)
  over_at = over_relabel (λ x. ltb x n) (stands n es) (after es) (served ls) (λ x h. lands n es names x (ltb-true x n h)) (served_over n ls sound.ends)

  -- over units and over groups a division weighs the same
  turn_cut : (R : ℕ → Bool) → weight_of K ls (λ x. R (after es x)) ≡ cut K (links_at ls es) R
  turn_cut R = weight_cut K laws n ls sound (λ x. R (after es x)) ∙ sym (weigh_relabel K (served ls) (after es) (cuts R))

  pub whole_cut : (S : ℕ → Bool) → ((x : ℕ) → S x ≡ S (after es x)) → weight_of K ls S ≡ cut K (links_at ls es) S
  whole_cut S h = ap (weight_of K ls) (fun_ext h) ∙ turn_cut S

  safe_loses : (best : V) (u v : ℕ) → stands n es u ≡ true → stands n es v ≡ true → Safe K (links_at ls es) (stands n es) best u v → LosesNothing K n ls es best u v
  safe_loses best u v su sv safe S division whole parted =
      ⊎_elim (λ h. inl (rw same h)) (λ r. inr (turn r.0 r.1 r.2 r.3)) (safe S split parted)
    where
      own : (x : ℕ) → S x ≡ S (after es x)
      own = whole_own n es S names whole

      same : weight_of K ls S ≡ cut K (links_at ls es) S
      same = whole_cut S (whole_own n es S names whole)

      split : Splits (stands n es) S
      split =
          let (a, la, sa) = division.some in
          let (b, lb, sb) = division.not_all in
          (after es a, after es b, lands n es names a la, lands n es names b lb, sym (whole_own n es S names whole a) ∙ sa, sym (whole_own n es S names whole b) ∙ sb)

      turn : (R : ℕ → Bool) → Splits (stands n es) R → R u ≡ R v → AtMost K (cut K (links_at ls es) R) (cut K (links_at ls es) S) → (R : ℕ → Bool) × Division n R × Whole n es R × (R u ≡ R v) × AtMost K (weight_of K ls R) (weight_of K ls S)
      turn R (a, b, ga, gb, ra, rb) e h = (
        λ x. R (after es x),
        record { some = (a, stands_less n es a ga, ap R (stands_own n es a ga) ∙ ra); not_all = (b, stands_less n es b gb, ap R (stands_own n es b gb) ∙ rb) },
        own_whole n es (λ x. R (after es x)) (λ x. ap R (sym (names.own x))),
        ap R (stands_own n es u su) ∙ e ∙ sym (ap R (stands_own n es v sv)),
        rw (turn_cut R, whole_cut S (whole_own n es S names whole)) h,
      )

  pub meets_safe : (best : V) → K.amount best ≤ limit → ((g : ℕ) → stands n es g ≡ true → AtMost K best (degree K ls es g))
      → (u v : ℕ) → stands n es u ≡ true → stands n es v ≡ true → (u ≡ v → ⊥)
      → (ground : Ground) → Meets K n ls es best u v ground → Safe K (links_at ls es) (stands n es) best u v
  meets_safe best fit low u v su sv apart Heavy h =
      heavy_safe K laws (links_at ls es) (light_at K laws n ls sound es) n (stands n es) best u v fit (stands_less n es) over_at (λ g sg. rw (degree_deg K laws n ls sound es g) at (low g sg)) su sv (rw (joint_tie K laws n ls sound es u v apart) at h)
  meets_safe best fit low u v su sv apart Unbalanced (inl h) =
      unbalanced_safe K laws (links_at ls es) (light_at K laws n ls sound es) n (stands n es) best u v fit (stands_less n es) over_at (λ g sg. rw (degree_deg K laws n ls sound es g) at (low g sg)) su sv (rw (joint_tie K laws n ls sound es u v apart, degree_deg K laws n ls sound es u) at h)
  meets_safe best fit low u v su sv apart Unbalanced (inr h) =
      turned_safe K (links_at ls es) (stands n es) best u v
      (unbalanced_safe K laws (links_at ls es) (light_at K laws n ls sound es) n (stands n es) best v u fit (stands_less n es) over_at (λ g sg. rw (degree_deg K laws n ls sound es g) at (low g sg)) sv su (rw (joint_tie K laws n ls sound es u v apart, degree_deg K laws n ls sound es v, tie_sym K (links_at ls es) u v) at h))
  meets_safe best fit low u v su sv apart Triangle (w, t, at-u, at-v) =
      let uw : u ≡ w → ⊥ = grind (arith, nat_tests) in
      let vw : v ≡ w → ⊥ = grind (arith, nat_tests) in
      triangle_safe K laws (links_at ls es) (light_at K laws n ls sound es) n (stands n es) best u v fit (stands_less n es) over_at (λ g sg. rw (degree_deg K laws n ls sound es g) at (low g sg)) su sv w uw vw
      (rw (joint_tie K laws n ls sound es u v apart, joint_tie K laws n ls sound es u w uw, degree_deg K laws n ls sound es u) at at-u)
      (rw (joint_tie K laws n ls sound es u v apart, joint_tie K laws n ls sound es v w vw, degree_deg K laws n ls sound es v) at at-v)
  meets_safe best fit low u v su sv apart Neighbourhood h =
      neighbourhood_safe K laws (links_at ls es) (light_at K laws n ls sound es) (stands n es) (third n es u v) best u v n fit (grind (arith, nat_tests)) (grind (arith, nat_tests)) (rw (gathered_gather K laws n ls sound es u v n apart) at h)
  meets_safe best fit low u v su sv apart Scan h = absurd h

  pub taken_at : (cap : V) (taken : List ℕ) → Capped K n ls es cap taken → Taken K (links_at ls es) (stands n es) cap taken
  taken_at cap [] order = tt
  taken_at cap (v ∷ taken) (sv, out, heaviest, rest) = (
    sv,
    out,
    λ w sw waits. rw (key_pull K laws n ls sound es taken w waits, key_pull K laws n ls sound es taken v out) at (heaviest w sw waits),
    taken_at cap taken rest,
  )

  pub order_capped : (cap : V) (taken : List ℕ) → Order K n ls es taken → Capped K n ls es cap taken
  order_capped cap [] order = tt
  order_capped cap (v ∷ taken) (sv, out, heaviest, rest) = (sv, out, (λ w sw waits. inl (heaviest w sw waits)), order_capped cap taken rest)

pub grounds_safe : {V : Type 0} (K : Kind V) → Lawful K → GroundsSafe K
grounds_safe K laws n ls sound es joins best fit low u v su sv apart ground meets =
    let names = named n es joins in
    safe_loses K laws n ls sound es names best u v su sv (meets_safe K laws n ls sound es names best fit low u v su sv apart ground meets)

pub scan_safe : {V : Type 0} (K : Kind V) → Lawful K → ScanSafe K
scan_safe K laws n ls sound es joins cap fit v taken order w sw out h S whole parted =
    let names = named n es joins in
    rw (whole_cut K laws n ls sound es names S (whole_own n es S names whole))
    (capped_scan K laws (links_at ls es) (light_at K laws n ls sound es) cap fit (stands n es) v taken (taken_at K laws n ls sound es names cap (v ∷ taken) order) w sw out (rw (key_pull K laws n ls sound es (v ∷ taken) w out) at h) S parted)

pub order_safe : {V : Type 0} (K : Kind V) → Lawful K → OrderSafe K
order_safe K laws n ls sound es joins bound fit v taken order = scan_safe K laws n ls sound es joins bound fit v taken (order_capped K laws n ls sound es (named n es joins) bound (v ∷ taken) order)
