-- The figure of a small plan, by trying every division.
use Rattle.std.proofs.Common.{◌≡◌, ℕ, zero, suc, ◌+◌, ◌<◌, Bool, true, false, cond, not, ◌&&◌, ◌||◌, eqb, ltb, leb, List, [], ◌∷◌, sym, ap, ◌∙◌, ⊎_elim, arith}
use Rattle.std.proofs.lemmas.Bool.Decides.{nat_tests}
use Rattle.std.proofs.lemmas.Bool.{cases_eq, cases_Bool, and_parts, or_left, or_right, or_cases, not-true, leb-true, ltb-true}
use Rattle.weights.specs.Laws.{limit}
use Rattle.cuts.specs.Kinds.{Kind, Lawful, AtMost}
use Rattle.cuts.specs.Links.{Link, load, Ends, Sound}
use Rattle.cuts.specs.Divisions.{Division, weight_of, Weakest}
use Rattle.cuts.proofs.Ends.{weight_below}

-- every number below n passes, or some does
unfoldable pub all_below : ℕ → (ℕ → Bool) → Bool
all_below zero f = true
all_below (suc n) f = f n && all_below n f

pub all_true : (n : ℕ) (f : ℕ → Bool) → all_below n f ≡ true → (x : ℕ) → x < n → f x ≡ true
unfolding all_below
all_true zero f h x l = absurd (omega arith)
all_true (suc n) f h x l =
    let r = and_parts (f n) (all_below n f) h in
    ⊎_elim (λ (e : x ≡ n). ap f e ∙ r.0) (λ (ne : x ≡ n → ⊥). all_true n f r.1 x (omega arith)) (cases_eq x n)

unfoldable pub any_below : ℕ → (ℕ → Bool) → Bool
any_below zero f = false
any_below (suc n) f = f n || any_below n f

pub any_true : (n : ℕ) (f : ℕ → Bool) → any_below n f ≡ true → (x : ℕ) × (x < n) × (f x ≡ true)
unfolding any_below
any_true zero f h = absurd (grind arith)
any_true (suc n) f h =
    ⊎_elim (λ (e : f n ≡ true). (n, omega arith, e))
    (λ (e : f n ≡ false). let r = any_true n f (sym (ap (λ b. b || any_below n f) e) ∙ h) in (r.0, omega (arith, r.1), r.2)) (cases_Bool (f n))

any_from : (n : ℕ) (f : ℕ → Bool) (x : ℕ) → x < n → f x ≡ true → any_below n f ≡ true
unfolding any_below
any_from zero f x l e = absurd (omega arith)
any_from (suc n) f x l e =
    ⊎_elim (λ (is : x ≡ n). or_left (f n) (any_below n f) (ap f (sym is) ∙ e)) (λ (ne : x ≡ n → ⊥). or_right (f n) (any_below n f) (any_from n f x (omega arith) e)) (cases_eq x n)

pub any_false : (n : ℕ) (f : ℕ → Bool) → any_below n f ≡ false → (x : ℕ) → x < n → f x ≡ false
any_false n f h x l = ⊎_elim (λ e. absurd (let k = any_from n f x l e in grind arith)) (λ e. e) (cases_Bool (f x))

-- S with another mark at k
abbrev pub with : ℕ → Bool → (ℕ → Bool) → ℕ → Bool
with k b S x = cond (eqb x k) b (S x)

-- every choice of marks below n passes
unfoldable pub every : ℕ → ((ℕ → Bool) → Bool) → Bool
every zero f = f (λ x. false)
every (suc k) f = every k (λ S. f (with k true S) && f (with k false S))

-- S below n, and no mark above
unfoldable bits : ℕ → (ℕ → Bool) → ℕ → Bool
bits zero S = λ x. false
bits (suc k) S = with k (S k) (bits k S)

bits_below : (n : ℕ) (S : ℕ → Bool) (x : ℕ) → x < n → bits n S x ≡ S x
unfolding bits
bits_below zero S x l = absurd (omega arith)
bits_below (suc n) S x l =
    ⊎_elim (λ (e : x ≡ n). let t : eqb x n ≡ true = grind (arith, nat_tests) in ap (λ b. cond b (S n) (bits n S x)) t ∙ ap S (sym e))
    (λ (ne : x ≡ n → ⊥). let t : eqb x n ≡ false = grind (arith, nat_tests) in ap (λ b. cond b (S n) (bits n S x)) t ∙ bits_below n S x (omega arith))
    (cases_eq x n)

every_bits : (n : ℕ) (f : (ℕ → Bool) → Bool) → every n f ≡ true → (S : ℕ → Bool) → f (bits n S) ≡ true
unfolding every bits
every_bits zero f h S = h
every_bits (suc n) f h S =
    let r = and_parts (f (with n true (bits n S))) (f (with n false (bits n S))) (every_bits n (λ T. f (with n true T) && f (with n false T)) h S) in
    ⊎_elim (λ (e : S n ≡ true). ap (λ b. f (with n b (bits n S))) e ∙ r.0) (λ (e : S n ≡ false). ap (λ b. f (with n b (bits n S))) e ∙ r.1) (cases_Bool (S n))

unfoldable pub divides : ℕ → (ℕ → Bool) → Bool
divides n S = any_below n S && any_below n (λ x. not (S x))

-- no division weighs less than m
unfoldable pub least_by_trial : {V : Type 0} → Kind V → ℕ → List (Link V) → V → Bool
least_by_trial K n ls m = every n (λ S. not (divides n S) || K.at_most m (weight_of K ls S))

unfoldable pub ends_by_trial : {V : Type 0} → ℕ → List (Link V) → Bool
ends_by_trial n [] = true
ends_by_trial n (l ∷ ls) = (ltb l.first n && ltb l.second n) && ends_by_trial n ls

ends_sound : {V : Type 0} (n : ℕ) (ls : List (Link V)) → ends_by_trial n ls ≡ true → Ends n ls
unfolding ends_by_trial Ends
ends_sound n [] h = tt
ends_sound n (l ∷ ls) h =
    let r = and_parts (ltb l.first n && ltb l.second n) (ends_by_trial n ls) h in
    let q = and_parts (ltb l.first n) (ltb l.second n) r.0 in
    (ltb-true _ _ q.0, ltb-true _ _ q.1, ends_sound n ls r.1)

pub sound_by_trial : {V : Type 0} (K : Kind V) (n : ℕ) (ls : List (Link V)) → (ends_by_trial n ls && leb (load K ls + load K ls) limit) ≡ true → Sound K n ls
sound_by_trial K n ls h =
    let r = and_parts (ends_by_trial n ls) (leb (load K ls + load K ls) limit) h in
    record { ends = ends_sound n ls r.0; light = leb-true _ _ r.1 }

divides_division : (n : ℕ) (S : ℕ → Bool) → divides n S ≡ true → Division n S
unfolding divides
divides_division n S h =
    let r = and_parts (any_below n S) (any_below n (λ x. not (S x))) h in
    let (b, l, e) = any_true n (λ x. not (S x)) r.1 in
    record { some = any_true n S r.0; not_all = (b, l, not-true (S b) e) }

division_divides : (n : ℕ) (S : ℕ → Bool) → Division n S → divides n S ≡ true
unfolding divides
division_divides n S d =
    let p = any_from n S d.some.0 d.some.1 d.some.2 in
    let q = any_from n (λ x. not (S x)) d.not_all.0 d.not_all.1 (ap not d.not_all.2) in
    rw (p, q)

division_bits : (n : ℕ) (S : ℕ → Bool) → Division n S → Division n (bits n S)
division_bits n S d = record {
  some = (d.some.0, d.some.1, bits_below n S d.some.0 d.some.1 ∙ d.some.2);
  not_all = (d.not_all.0, d.not_all.1, bits_below n S d.not_all.0 d.not_all.1 ∙ d.not_all.2);
}

module _ {V : Type 0} (K : Kind V) (laws : Lawful K) (n : ℕ) (ls : List (Link V)) (sound : Sound K n ls) where
  least_sound : (m : V) → least_by_trial K n ls m ≡ true → (D : ℕ → Bool) → Division n D → AtMost K m (weight_of K ls D)
  unfolding least_by_trial
  least_sound m h D d =
      let here = every_bits n (λ S. not (divides n S) || K.at_most m (weight_of K ls S)) h D in
      let same = weight_below K laws n ls sound (bits n D) D (bits_below n D) in
      let yes = division_divides n (bits n D) (division_bits n D d) in
      ⊎_elim (λ e. absurd (grind arith)) (λ (e : K.at_most m (weight_of K ls (bits n D)) ≡ true). rw same at e)
      (or_cases (not (divides n (bits n D))) (K.at_most m (weight_of K ls (bits n D))) here)

  -- the figure, from the definitions alone
  pub figure_sound : (S : ℕ → Bool) → (divides n S && least_by_trial K n ls (weight_of K ls S)) ≡ true → Weakest K n ls S
  figure_sound S h =
      let r = and_parts (divides n S) (least_by_trial K n ls (weight_of K ls S)) h in
      record { division = divides_division n S r.0; least = least_sound (weight_of K ls S) r.1 }
