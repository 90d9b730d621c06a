-- Moving one group to the other side of a division, over links between groups.
use Rattle.std.proofs.Common.{◌≡◌, ℕ, zero, suc, ◌+◌, ◌<◌, ◌≤◌, Bool, true, false, cond, not, ◌&&◌, eqb, ◌⊎◌, List, [], ◌∷◌, sym, ap, ◌∙◌, inl, inr, ⊎_elim, arith}
use Rattle.std.proofs.lemmas.Bool.Decides.{nat_tests}
use Rattle.std.proofs.lemmas.Bool.{cases_lt, cases_Bool}
use Rattle.weights.specs.Laws.{limit}
use Rattle.cuts.specs.Kinds.{Kind, Lawful, AtMost}
use Rattle.cuts.specs.Divisions.{only}
use Rattle.cuts.specs.Scans.{has}
use Rattle.cuts.proofs.Rules.{heft, Two, cuts, into, moved, Over, cut, deg, pull, tie}
use Rattle.cuts.proofs.Sums.{weigh_same, weigh_over, fits, trans_at, weigh_add, weigh_mono, grow_by, cancel}
use Rattle.cuts.proofs.Points.{two_cuts, two_into, own, across, rest, own_across, across_rest, moved_rest, two_moved, two_across, key_across, two_point}

pub differing : (a b : Bool) → (a ≡ b) ⊎ (a ≡ b → ⊥)
differing a b = grind arith

-- the least number below n that passes, or none does
pub least_below : (n : ℕ) (f : ℕ → Bool) → ((x : ℕ) × (x < n) × (f x ≡ true) × ((y : ℕ) → y < x → f y ≡ false)) ⊎ ((x : ℕ) → x < n → f x ≡ false)
least_below zero f = inr (λ x l. absurd (omega arith))
least_below (suc n) f =
    ⊎_elim (λ r. inl (r.0, omega (arith, r.1), r.2, r.3))
    (λ (none : (x : ℕ) → x < n → f x ≡ false). ⊎_elim (λ (e : f n ≡ true). inl (n, omega arith, e, none))
    (λ (e : f n ≡ false). inr (λ x l. ⊎_elim (λ (k : x < n). none x k) (λ (g : n ≤ x). let is : x ≡ n = omega arith in ap f is ∙ e) (cases_lt x n))) (cases_Bool (f n)))
    (least_below n f)

-- some member of G on each side
abbrev pub Splits : (ℕ → Bool) → (ℕ → Bool) → Type 0
Splits G S = (a b : ℕ) × (G a ≡ true) × (G b ≡ true) × (S a ≡ true) × (S b ≡ false)

splits_at : (G S : ℕ → Bool) (p q : ℕ) → G p ≡ true → G q ≡ true → (S p ≡ S q → ⊥) → Splits G S
splits_at G S p q gp gq parted =
    ⊎_elim (λ e. (p, q, gp, gq, e, grind arith)) (λ e. (q, p, gq, gp, grind arith, grind arith)) (differing (S p) true)

-- a division that parts u and v weighs at least best, or one that does not part them weighs no more
abbrev pub Safe : {V : Type 0} → Kind V → List (ℕ × ℕ × V) → (ℕ → Bool) → V → ℕ → ℕ → Type 0
Safe K ls G best u v =
    (S : ℕ → Bool) → Splits G S → (S u ≡ S v → ⊥)
    → AtMost K best (cut K ls S) ⊎ ((R : ℕ → Bool) × Splits G R × (R u ≡ R v) × AtMost K (cut K ls R) (cut K ls S))

module _ {V : Type 0} (K : Kind V) (ls : List (ℕ × ℕ × V)) where
  pub tie_sym : (u v : ℕ) → tie K ls u v ≡ tie K ls v u
  tie_sym u v = weigh_same K ls (into (only u) v) (into (only v) u) (λ x y. omega arith)

  pub alone : (S G : ℕ → Bool) (u : ℕ) → Over G ls → ((x : ℕ) → G x ≡ true → (x ≡ u → ⊥) → S x ≡ S u → ⊥) → cut K ls S ≡ deg K ls u
  alone S G u over h = weigh_over K G ls (cuts S) (cuts (only u)) over (λ x y p q. let a = h x p in let b = h y q in grind (arith, nat_tests))

module _ {V : Type 0} (K : Kind V) (laws : Lawful K) (ls : List (ℕ × ℕ × V)) (light : heft K ls + heft K ls ≤ limit) where
  -- u moves over to where all of Z are
  pub move_lemma : (S Z : ℕ → Bool) (u : ℕ) → ((z : ℕ) → Z z ≡ true → S u ≡ S z → ⊥) → AtMost K (deg K ls u) (K.plus (pull K ls Z u) (pull K ls Z u)) → AtMost K (cut K ls (moved u S)) (cut K ls S)
  move_lemma S Z u parted h =
      let low : (x y : ℕ) → into Z u x y + into Z u x y ≤ across S u x y + across S u x y = λ x y. omega (arith, key_across S Z u x y parted) in
      let once : Two (λ x y. own S u x y + across S u x y) = λ x y. omega (arith, own_across S u x y, two_cuts (only u) x y) in
      let here : Two (λ x y. across S u x y + rest S u x y) = λ x y. omega (arith, across_rest S u x y, two_cuts S x y) in
      let keys : Two (λ x y. into Z u x y + into Z u x y) = λ x y. omega (arith, low x y, two_across S u x y) in
      let h' = rw (weigh_same K ls (cuts (only u)) (λ x y. own S u x y + across S u x y) (own_across S u), sym (weigh_add K laws ls light (into Z u) (into Z u) keys)) at h in
      let wide = trans_at K laws ls light (λ x y. own S u x y + across S u x y) (λ x y. into Z u x y + into Z u x y) (λ x y. across S u x y + across S u x y) once keys (two_across S u) h' (weigh_mono K laws ls light (λ x y. into Z u x y + into Z u x y) (λ x y. across S u x y + across S u x y) low (two_across S u)) in
      let less = cancel K laws ls light (own S u) (across S u) (across S u) once (two_across S u) wide in
      rw (weigh_same K ls (cuts (moved u S)) (λ x y. own S u x y + rest S u x y) (moved_rest S u), weigh_same K ls (cuts S) (λ x y. across S u x y + rest S u x y) (across_rest S u))
      (grow_by K laws ls light (own S u) (across S u) (rest S u) (two_moved S u) here less)

  pub two_keys : (a b z : ℕ) → (a ≡ b → ⊥) → pull K ls (has (a ∷ b ∷ [])) z ≡ K.plus (tie K ls a z) (tie K ls b z)
  two_keys a b z parted =
      weigh_same K ls (into (has (a ∷ b ∷ [])) z) (λ x y. into (only a) z x y + into (only b) z x y) (λ x y. two_point a b z x y parted)
      ∙ weigh_add K laws ls light (into (only a) z) (into (only b) z) (λ x y. omega (arith, two_point a b z x y parted, two_into (has (a ∷ b ∷ [])) z x y))

  pub triangle_lemma : (S : ℕ → Bool) (u v w : ℕ) → (u ≡ w → ⊥) → (v ≡ w → ⊥) → (S u ≡ S v → ⊥) → let at-u = K.plus (tie K ls u v) (tie K ls u w) in let at-v = K.plus (tie K ls u v) (tie K ls v w) in AtMost K (deg K ls u) (K.plus at-u at-u) → AtMost K (deg K ls v) (K.plus at-v at-v) → AtMost K (cut K ls (moved u S)) (cut K ls S) ⊎ AtMost K (cut K ls (moved v S)) (cut K ls S)
  triangle_lemma S u v w p q parted at-u at-v =
      ⊎_elim
      (λ turned. inr (move_lemma S (has (u ∷ w ∷ [])) v (λ z e. grind (arith, nat_tests)) (rw (two_keys u w v p, tie_sym K ls w v) at-v)))
      (λ kept. inl (move_lemma S (has (v ∷ w ∷ [])) u (λ z e. grind (arith, nat_tests)) (rw (two_keys v w u q, tie_sym K ls v u, tie_sym K ls w u) at-u)))
      (differing (S u) (S w))

  -- where u can move: with others on its side a division is left, and else it was cut off alone
  moved_safe : (n : ℕ) (G : ℕ → Bool) (best : V) (u v : ℕ) (S : ℕ → Bool) → ((x : ℕ) → G x ≡ true → x < n) → Over G ls → G v ≡ true → (S u ≡ S v → ⊥) → AtMost K best (deg K ls u) → AtMost K (cut K ls (moved u S)) (cut K ls S) → AtMost K best (cut K ls S) ⊎ ((R : ℕ → Bool) × Splits G R × (R u ≡ R v) × AtMost K (cut K ls R) (cut K ls S))
  moved_safe n G best u v S bound over gv parted low h =
      ⊎_elim
      (λ r. let a = r.0 in let pa = r.2 in
      let ga : G a ≡ true = grind (arith, nat_tests) in
      inr (moved u S, splits_at G (moved u S) a v ga gv (grind (arith, nat_tests)), grind (arith, nat_tests), h))
      (λ none. inl (rw (alone K ls S G u over (λ x gx far. let k = none x (bound x gx) in grind (arith, nat_tests))) low))
      (least_below n (λ a. G a && (not (eqb a u) && cond (S u) (S a) (not (S a)))))

  module _ (n : ℕ) (G : ℕ → Bool) (best : V) (u v : ℕ) (fit : K.amount best ≤ limit) (bound : (x : ℕ) → G x ≡ true → x < n) (over : Over G ls) (low : (g : ℕ) → G g ≡ true → AtMost K best (deg K ls g)) (gu : G u ≡ true) (gv : G v ≡ true) where
    pub heavy_safe : AtMost K best (tie K ls u v) → Safe K ls G best u v
    heavy_safe h S sp parted =
        inl (laws.trans _ _ _ fit (fits K laws ls light _ (two_into (only u) v)) (fits K laws ls light _ (two_cuts S)) h (weigh_mono K laws ls light (into (only u) v) (cuts S) (λ x y. grind (arith, nat_tests)) (two_cuts S)))

    pub unbalanced_safe : AtMost K (deg K ls u) (K.plus (tie K ls u v) (tie K ls u v)) → Safe K ls G best u v
    unbalanced_safe h S sp parted =
        moved_safe n G best u v S bound over gv parted (low u gu) (move_lemma S (only v) u (λ z e. grind (arith, nat_tests)) (rw (tie_sym K ls v u) h))

    pub triangle_safe : (w : ℕ) → (u ≡ w → ⊥) → (v ≡ w → ⊥) → AtMost K (deg K ls u) (K.plus (K.plus (tie K ls u v) (tie K ls u w)) (K.plus (tie K ls u v) (tie K ls u w))) → AtMost K (deg K ls v) (K.plus (K.plus (tie K ls u v) (tie K ls v w)) (K.plus (tie K ls u v) (tie K ls v w))) → Safe K ls G best u v
    triangle_safe w p q at-u at-v S sp parted =
        ⊎_elim (moved_safe n G best u v S bound over gv parted (low u gu))
        (λ h. ⊎_elim inl (λ r. inr (r.0, r.1, sym r.2, r.3)) (moved_safe n G best v u S bound over gu (λ e. parted (sym e)) (low v gv) h))
        (triangle_lemma S u v w p q parted at-u at-v)

pub turned_safe : {V : Type 0} (K : Kind V) (ls : List (ℕ × ℕ × V)) (G : ℕ → Bool) (best : V) (u v : ℕ) → Safe K ls G best v u → Safe K ls G best u v
turned_safe K ls G best u v safe S sp parted = ⊎_elim inl (λ r. inr (r.0, r.1, sym r.2, r.3)) (safe S sp (λ e. parted (sym e)))
