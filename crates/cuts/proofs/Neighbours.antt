-- The neighbourhood of a pair: what a division that parts it cuts at each third group.
use Rattle.std.proofs.Common.{◌≡◌, ℕ, zero, suc, ◌+◌, ◌<◌, ◌≤◌, Bool, true, false, cond, ◌||◌, eqb, ◌⊎◌, List, [], ◌∷◌, sym, refl, ap, ◌∙◌, ap₂, inl, inr, ⊎_elim, arith}
use Rattle.std.proofs.lemmas.Bool.Decides.{nat_tests}
use Rattle.std.proofs.lemmas.Bool.{cases_Bool}
use Rattle.weights.specs.Laws.{limit}
use Rattle.cuts.specs.Kinds.{Kind, Lawful, AtMost, lesser}
use Rattle.cuts.specs.Divisions.{only}
use Rattle.cuts.specs.Scans.{has}
use Rattle.cuts.proofs.Rules.{weigh, heft, Two, cuts, cuts_in, into, tie}
use Rattle.cuts.proofs.Sums.{same, weigh_same, fits, trans_at, weigh_add, weigh_mono, both_grow}
use Rattle.cuts.proofs.Points.{two_cuts, two_into, two_in, in_one, part_point, star_first, star_more, within, within_first, within_more, within_one}
use Rattle.cuts.proofs.Moves.{differing, Safe}

-- the numbers below k that pass the test
abbrev pub below : (ℕ → Bool) → ℕ → ℕ → Bool
below P zero x = false
below P (suc k) x = cond (P k) (eqb x k || below P k x) (below P k x)

below_less : (P : ℕ → Bool) (k x : ℕ) → below P k x ≡ true → x < k
below_less P zero x h = absurd (grind arith)
below_less P (suc k) x h = let ih = below_less P k x in grind (arith, nat_tests)

pub not_below : (P : ℕ → Bool) (k : ℕ) → below P k k ≡ false
not_below P k = ⊎_elim (λ t. absurd (omega (arith, below_less P k k t))) (λ f. f) (cases_Bool (below P k k))

-- u, v and what passes below k
abbrev pub around : (ℕ → Bool) → ℕ → ℕ → ℕ → ℕ → Bool
around P u v k x = eqb x u || (eqb x v || below P k x)

abbrev pub gather : {V : Type 0} → Kind V → List (ℕ × ℕ × V) → (ℕ → Bool) → ℕ → ℕ → ℕ → V
gather K ls P u v zero = tie K ls u v
gather K ls P u v (suc k) = cond (P k) (K.plus (gather K ls P u v k) (lesser K (tie K ls u k) (tie K ls v k))) (gather K ls P u v k)

module _ {V : Type 0} (K : Kind V) (laws : Lawful K) (ls : List (ℕ × ℕ × V)) (light : heft K ls + heft K ls ≤ limit) where
  star_step : (S T : ℕ → Bool) (z s w u v : ℕ) (τ : ℕ → ℕ → ℕ) → (S s ≡ S w → ⊥) → (z ≡ u) ⊎ (z ≡ v) → (s ≡ u) ⊎ (s ≡ v) → (w ≡ u → ⊥) → (w ≡ v → ⊥) → T w ≡ false → ((x y : ℕ) → τ x y ≤ within (λ a. eqb a u || (eqb a v || T a)) x y) → AtMost K (tie K ls z w) (tie K ls s w) → AtMost K (weigh K ls τ) (weigh K ls (cuts_in (λ x. eqb x u || (eqb x v || T x)) S)) → AtMost K (weigh K ls (λ x y. into (only z) w x y + τ x y)) (weigh K ls (cuts_in (λ x. eqb x u || (eqb x v || (eqb x w || T x))) S))
  star_step S T z s w u v τ parted is is' p q out small h k =
      let before = cuts_in (λ x. eqb x u || (eqb x v || T x)) S in
      let after = cuts_in (λ x. eqb x u || (eqb x v || (eqb x w || T x))) S in
      let U = λ (a : ℕ). eqb a u || (eqb a v || (eqb a w || T a)) in
      let with-z : Two (λ x y. into (only z) w x y + τ x y) = λ x y. omega (arith, small x y, within_more T z w u v x y is p q out, within_one U x y) in
      let with-s : Two (λ x y. into (only s) w x y + τ x y) = λ x y. omega (arith, small x y, within_more T s w u v x y is' p q out, within_one U x y) in
      let grows : (x y : ℕ) → into (only s) w x y + before x y ≤ after x y = λ x y. star_more S T s w u v x y parted is' p q out in
      let with-cut : Two (λ x y. into (only s) w x y + before x y) = λ x y. omega (arith, grows x y, in_one U S x y) in
      trans_at K laws ls light (λ x y. into (only z) w x y + τ x y) (λ x y. into (only s) w x y + before x y) after with-z with-cut (two_in U S)
      (both_grow K laws ls light (into (only z) w) (into (only s) w) τ before with-z with-s with-cut h k)
      (weigh_mono K laws ls light (λ x y. into (only s) w x y + before x y) after grows (two_in U S))

  pub chosen : (u v w : ℕ) → (z : ℕ) × ((z ≡ u) ⊎ (z ≡ v)) × (lesser K (tie K ls u w) (tie K ls v w) ≡ tie K ls z w) × AtMost K (tie K ls z w) (tie K ls u w) × AtMost K (tie K ls z w) (tie K ls v w)
  chosen u v w =
      ⊎_elim
      (λ (h : K.at_most (tie K ls u w) (tie K ls v w) ≡ true). (u, inl refl, rw h, same K laws _ (fits K laws ls light _ (two_into (only u) w)), h))
      (λ (h : K.at_most (tie K ls u w) (tie K ls v w) ≡ false). (v, inr refl, rw h, ⊎_elim (λ k. absurd (grind arith)) (λ k. k) (laws.total _ _ (fits K laws ls light _ (two_into (only u) w)) (fits K laws ls light _ (two_into (only v) w))), same K laws _ (fits K laws ls light _ (two_into (only v) w))))
      (cases_Bool (K.at_most (tie K ls u w) (tie K ls v w)))

  -- m is what a rule weighs, which counts links among the members of U, each once, and no more than S cuts
  abbrev pub Counted : (ℕ → Bool) → (ℕ → Bool) → V → Type 0
  Counted S U m = (σ : ℕ → ℕ → ℕ) × (m ≡ weigh K ls σ) × ((x y : ℕ) → σ x y ≤ within U x y) × AtMost K (weigh K ls σ) (weigh K ls (cuts_in U S))

  module _ (S P : ℕ → Bool) (u v : ℕ) (parted : S u ≡ S v → ⊥) (not-u : P u ≡ false) (not-v : P v ≡ false) where
    gather_step : (k : ℕ) → P k ≡ true → (m : V) → Counted S (around P u v k) m → Counted S (λ x. eqb x u || (eqb x v || (eqb x k || below P k x))) (K.plus m (lesser K (tie K ls u k) (tie K ls v k)))
    gather_step k here m (σ, is, small, less) =
        let c = chosen u v k in
        let z = c.0 in
        let ku : k ≡ u → ⊥ = λ e. grind (arith, ap P e) in
        let kv : k ≡ v → ⊥ = λ e. grind (arith, ap P e) in
        let out = not_below P k in
        let U = λ (x : ℕ). eqb x u || (eqb x v || (eqb x k || below P k x)) in
        let small' : (x y : ℕ) → into (only z) k x y + σ x y ≤ within U x y = λ x y. omega (arith, small x y, within_more (below P k) z k u v x y c.1 ku kv out) in
        let two : Two (λ x y. σ x y + into (only z) k x y) = λ x y. omega (arith, small' x y, within_one U x y) in
        let step = λ (s : ℕ) (far : S s ≡ S k → ⊥) (at : (s ≡ u) ⊎ (s ≡ v)) (h : AtMost K (tie K ls z k) (tie K ls s k)). star_step S (below P k) z s k u v σ far c.1 at ku kv out small h less in (
          λ x y. into (only z) k x y + σ x y,
          ap₂ K.plus is c.2 ∙ sym (weigh_add K laws ls light σ (into (only z) k) two) ∙ weigh_same K ls (λ x y. σ x y + into (only z) k x y) (λ x y. into (only z) k x y + σ x y) (λ x y. omega arith),
          small',
          ⊎_elim (λ same. step v (λ e. parted (same ∙ sym e)) (inr refl) c.4) (λ far. step u far (inl refl) c.3) (differing (S u) (S k)),
        )

    pub gather_in : (k : ℕ) → Counted S (around P u v k) (gather K ls P u v k)
    gather_in zero = (
      into (only u) v,
      refl,
      (λ x y. within_first u v x y (λ e. parted (ap S e))),
      weigh_mono K laws ls light (into (only u) v) (cuts_in (has (u ∷ v ∷ [])) S) (λ x y. star_first S u v x y parted) (two_in (has (u ∷ v ∷ [])) S),
    )
    gather_in (suc k) = go (gather_in k) (P k) refl
      where
        go : Counted S (around P u v k) (gather K ls P u v k) → (b : Bool) → P k ≡ b → Counted S (λ x. eqb x u || (eqb x v || cond b (eqb x k || below P k x) (below P k x))) (cond b (K.plus (gather K ls P u v k) (lesser K (tie K ls u k) (tie K ls v k))) (gather K ls P u v k))
        go before true e = gather_step k e (gather K ls P u v k) before
        go before false e = before

  pub neighbourhood_safe : (G P : ℕ → Bool) (best : V) (u v k : ℕ) → K.amount best ≤ limit → P u ≡ false → P v ≡ false → AtMost K best (gather K ls P u v k) → Safe K ls G best u v
  neighbourhood_safe G P best u v k fit not-u not-v h S sp parted =
      let (σ, is, small, less) = gather_in S P u v parted not-u not-v k in
      let U = around P u v k in
      let two : Two σ = λ x y. omega (arith, small x y, within_one U x y) in
      let h' = rw is at h in
      inl (laws.trans _ _ _ fit (fits K laws ls light _ two) (fits K laws ls light _ (two_cuts S)) h'
      (trans_at K laws ls light σ (cuts_in U S) (cuts S) two (two_in U S) (two_cuts S) less (weigh_mono K laws ls light (cuts_in U S) (cuts S) (part_point S U) (two_cuts S))))
