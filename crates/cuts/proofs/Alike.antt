-- Plans alike weigh every division alike, and so have one figure. A division turned over is the same division.
use Rattle.std.proofs.Common.{◌≡◌, ℕ, zero, suc, ◌+◌, ◌<◌, ◌≤◌, Bool, true, false, cond, not, ◌&&◌, ltb, List, [], sym, refl, ap, ◌∙◌, ap₂, arith}
use mathlib.Core.Path.{fun_ext}
use Rattle.std.proofs.lemmas.Bool.Decides.{nat_tests}
use Rattle.weights.specs.Laws.{limit}
use Rattle.cuts.specs.Kinds.{Kind, Lawful}
use Rattle.cuts.specs.Links.{Link, sum, Sound}
use Rattle.cuts.specs.Divisions.{Division, only, differ, turned, weight_of, between, Figure}
use Rattle.cuts.specs.Claims.{TurnedWeakest, AlikeSame}
use Rattle.cuts.proofs.Rules.{weigh, heft, Two, cuts, cuts_in, into, relabel, Over, tie}
use Rattle.cuts.proofs.Sums.{weigh_same, weigh_over, weigh_none, weigh_add, weigh_relabel}
use Rattle.cuts.proofs.Points.{two_in, two_into}
use Rattle.cuts.proofs.Served.{served, served_over, light, weight_cut, joint_tie}
use Rattle.cuts.proofs.Mergers.{fit_weight}

differ_not : (a b : Bool) → differ (not a) (not b) ≡ differ a b
differ_not true true = refl
differ_not true false = refl
differ_not false true = refl
differ_not false false = refl

turned_weight : {V : Type 0} (K : Kind V) (ls : List (Link V)) (S : ℕ → Bool) → weight_of K ls (turned S) ≡ weight_of K ls S
turned_weight K ls S = ap (λ t. sum K t ls) (fun_ext (λ x. fun_ext (λ y. go (S 0) (S x) (S y))))
  where
    go : (b p q : Bool) → differ (cond b (not p) p) (cond b (not q) q) ≡ differ p q
    go true p q = differ_not p q
    go false p q = refl

turned_division : (n : ℕ) (S : ℕ → Bool) → Division n S → Division n (turned S)
turned_division n S d = go (S 0)
  where
    go : (b : Bool) → Division n (λ x. cond b (not (S x)) (S x))
    go true = record { some = (d.not_all.0, d.not_all.1, ap not d.not_all.2); not_all = (d.some.0, d.some.1, ap not d.some.2) }
    go false = record { some = d.some; not_all = d.not_all }

unmarked : (b : Bool) → cond b (not b) b ≡ false
unmarked true = refl
unmarked false = refl

pub turned_weakest : {V : Type 0} (K : Kind V) → TurnedWeakest K
turned_weakest K n ls S w = (
  unmarked (S 0),
  turned_weight K ls S,
  record { division = turned_division n S w.division; least = λ D d. rw (turned_weight K ls S) (w.least D d) },
)

-- a link to k that S cuts, from those below j
abbrev row : (ℕ → Bool) → ℕ → ℕ → ℕ → Bool
row S k j z = ltb z j && differ (S z) (S k)

row_none : (S : ℕ → Bool) (k x y : ℕ) → into (row S k 0) k x y ≡ 0
row_none S k x y = grind (arith, nat_tests)

row_more : (S : ℕ → Bool) (k j x y : ℕ) → differ (S j) (S k) ≡ true → into (row S k (suc j)) k x y ≡ into (row S k j) k x y + into (only j) k x y
row_more S k j x y h = grind (arith, nat_tests)

row_same : (S : ℕ → Bool) (k j x y : ℕ) → differ (S j) (S k) ≡ false → into (row S k (suc j)) k x y ≡ into (row S k j) k x y
row_same S k j x y h = grind (arith, nat_tests)

-- what S cuts among the units up to k is what it cuts among those below, and at k
cuts_more : (S : ℕ → Bool) (k x y : ℕ) → cuts_in (λ z. ltb z (suc k)) S x y ≡ cuts_in (λ z. ltb z k) S x y + into (row S k k) k x y
cuts_more S k x y = grind (arith, nat_tests)

cuts_none : (S : ℕ → Bool) (x y : ℕ) → cuts_in (λ z. ltb z 0) S x y ≡ 0
cuts_none S x y = grind (arith, nat_tests)

cuts_all : (S : ℕ → Bool) (n x y : ℕ) → ltb x n ≡ true → ltb y n ≡ true → cuts S x y ≡ cuts_in (λ z. ltb z n) S x y
cuts_all S n x y p q = grind (arith, nat_tests)

module _ {V : Type 0} (K : Kind V) (laws : Lawful K) (n : ℕ) (ls ms : List (ℕ × ℕ × V)) (light-l : heft K ls + heft K ls ≤ limit) (light-m : heft K ms + heft K ms ≤ limit) (alike : (x y : ℕ) → x < n → y < n → (x ≡ y → ⊥) → tie K ls x y ≡ tie K ms x y) (S : ℕ → Bool) where
  row_alike : (k j : ℕ) → k < n → j ≤ k → weigh K ls (into (row S k j) k) ≡ weigh K ms (into (row S k j) k)
  row_alike k zero lk lj =
      weigh_same K ls _ (λ x y. 0) (row_none S k) ∙ weigh_none K laws ls ∙ sym (weigh_none K laws ms) ∙ sym (weigh_same K ms _ (λ x y. 0) (row_none S k))
  row_alike k (suc j) lk lj = go (differ (S j) (S k)) refl (row_alike k j lk (omega arith))
    where
      go : (b : Bool) → differ (S j) (S k) ≡ b → weigh K ls (into (row S k j) k) ≡ weigh K ms (into (row S k j) k) → weigh K ls (into (row S k (suc j)) k) ≡ weigh K ms (into (row S k (suc j)) k)
      go true e ih =
          let more = λ (x y : ℕ). row_more S k j x y e in
          let two : Two (λ x y. into (row S k j) k x y + into (only j) k x y) = λ x y. omega (arith, more x y, two_into (row S k (suc j)) k x y) in
          weigh_same K ls _ _ more ∙ weigh_add K laws ls light-l (into (row S k j) k) (into (only j) k) two
          ∙ ap₂ K.plus ih (alike j k (omega arith) lk (λ e. omega arith))
          ∙ sym (weigh_add K laws ms light-m (into (row S k j) k) (into (only j) k) two) ∙ sym (weigh_same K ms _ _ more)
      go false e ih =
          let kept = λ (x y : ℕ). row_same S k j x y e in
          weigh_same K ls _ _ kept ∙ ih ∙ sym (weigh_same K ms _ _ kept)

  inner_alike : (k : ℕ) → k ≤ n → weigh K ls (cuts_in (λ z. ltb z k) S) ≡ weigh K ms (cuts_in (λ z. ltb z k) S)
  inner_alike zero l =
      weigh_same K ls _ (λ x y. 0) (cuts_none S) ∙ weigh_none K laws ls ∙ sym (weigh_none K laws ms) ∙ sym (weigh_same K ms _ (λ x y. 0) (cuts_none S))
  inner_alike (suc k) l =
      let two : Two (λ x y. cuts_in (λ z. ltb z k) S x y + into (row S k k) k x y) = λ x y. omega (arith, cuts_more S k x y, two_in (λ z. ltb z (suc k)) S x y) in
      weigh_same K ls _ _ (cuts_more S k) ∙ weigh_add K laws ls light-l (cuts_in (λ z. ltb z k) S) (into (row S k k) k) two
      ∙ ap₂ K.plus (inner_alike k (omega arith)) (row_alike k k (omega arith) (omega arith))
      ∙ sym (weigh_add K laws ms light-m (cuts_in (λ z. ltb z k) S) (into (row S k k) k) two) ∙ sym (weigh_same K ms _ _ (cuts_more S k))

  cuts_alike : Over (λ x. ltb x n) ls → Over (λ x. ltb x n) ms → weigh K ls (cuts S) ≡ weigh K ms (cuts S)
  cuts_alike over-l over-m =
      weigh_over K (λ x. ltb x n) ls (cuts S) (cuts_in (λ z. ltb z n) S) over-l (cuts_all S n)
      ∙ inner_alike n (omega arith)
      ∙ sym (weigh_over K (λ x. ltb x n) ms (cuts S) (cuts_in (λ z. ltb z n) S) over-m (cuts_all S n))

tie_alone : {V : Type 0} (K : Kind V) (laws : Lawful K) (n : ℕ) (ls : List (Link V)) (sound : Sound K n ls) (x y : ℕ) → (x ≡ y → ⊥) → between K ls (only x) (only y) ≡ tie K (served ls) x y
tie_alone {V} K laws n ls sound x y apart = joint_tie K laws n ls sound [] x y apart ∙ plain (served ls)
  where
    plain : (gs : List (ℕ × ℕ × V)) → tie K (relabel (λ z. z) gs) x y ≡ tie K gs x y
    plain gs = weigh_relabel K gs (λ z. z) (into (only x) y)

pub alike_same : {V : Type 0} (K : Kind V) → Lawful K → AlikeSame K
alike_same {V} K laws n ls ms sound-l sound-m alike = (weights, figures)
  where
    weights : (S : ℕ → Bool) → weight_of K ls S ≡ weight_of K ms S
    weights S =
        weight_cut K laws n ls sound-l S
        ∙ cuts_alike K laws n (served ls) (served ms) (light K laws n ls sound-l) (light K laws n ms sound-m)
        (λ x y lx ly apart. sym (tie_alone K laws n ls sound-l x y apart) ∙ alike x y lx ly apart ∙ tie_alone K laws n ms sound-m x y apart)
        S (served_over n ls sound-l.ends) (served_over n ms sound-m.ends)
        ∙ sym (weight_cut K laws n ms sound-m S)

    figures : (a b : V) → Figure K n ls a → Figure K n ms b → a ≡ b
    figures a b (S, s, is) (T, t, it) =
        let low = rw (weights S, weights T) at (s.least T t.division) in
        is ∙ weights S ∙ laws.antisym _ _ (fit_weight K laws n ms sound-m S) (fit_weight K laws n ms sound-m T) low (t.least S s.division) ∙ sym it
