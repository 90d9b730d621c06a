-- The groups that mergers make: each goes by its lowest unit, and each merger leaves one fewer.
use Rattle.std.proofs.Common.{◌≡◌, ℕ, zero, suc, ◌+◌, ◌<◌, ◌≤◌, Bool, true, cond, not, ◌&&◌, eqb, ltb, List, [], ◌∷◌, ◌++◌, length, take, sym, refl, ap, ◌∙◌, subst, ⊎_elim, append_assoc, append-nil, arith, length-append}
use Rattle.std.proofs.lemmas.Bool.Decides.{nat_tests}
use Rattle.std.proofs.lemmas.Bool.{cases_eq, cases_lt}
use Rattle.cuts.specs.declared.entry.Entry.{Entry}
use Rattle.cuts.specs.Divisions.{Division}
use Rattle.cuts.specs.Groups.{after, group, stands, left, Whole, Joins}
use Rattle.cuts.specs.Claims.{GroupsNamed}
use Rattle.cuts.proofs.Counts.{but, count_same, count_all, count_but, another}

-- v called u
abbrev pub merged : ℕ → ℕ → ℕ → ℕ
merged u v x = cond (eqb x v) u x

pub after_append : (ds bs : List Entry) (x : ℕ) → after (ds ++ bs) x ≡ after bs (after ds x)
after_append [] bs x = refl
after_append (d ∷ ds) bs x = after_append ds bs (merged d.low d.high x)

pub after_more : (es : List Entry) (e : Entry) (x : ℕ) → after (es ++ (e ∷ [])) x ≡ merged e.low e.high (after es x)
after_more es e x = after_append es (e ∷ []) x

-- what holds of the names after some mergers
pub record Named (n : ℕ) (es : List Entry) : Type 0 where
  pub own : (x : ℕ) → after es (after es x) ≡ after es x
  pub lowest : (x : ℕ) → after es x ≤ x
  pub outside : (x : ℕ) → n ≤ x → after es x ≡ x
  pub fewer : left n es + length es ≡ n

pub named_none : (n : ℕ) → Named n []
named_none n = record {
  own = λ x. refl;
  lowest = λ x. omega arith;
  outside = λ x h. refl;
  fewer = let e = count_all n (stands n []) (λ x h. grind (arith, nat_tests)) in omega arith;
}

module _ (f : ℕ → ℕ) (u v : ℕ) (less : u < v) where
  merged_own : (x : ℕ) → f (f x) ≡ f x → f u ≡ u → merged u v (f (merged u v (f x))) ≡ merged u v (f x)
  merged_own x i n = ⊎_elim (λ (e : f x ≡ v). rw e (grind (arith, nat_tests))) (λ (ne : f x ≡ v → ⊥). let k : merged u v (f x) ≡ f x = grind (arith, nat_tests) in rw k (rw (i, k))) (cases_eq (f x) v)

  merged_lowest : (x : ℕ) → f x ≤ x → merged u v (f x) ≤ x
  merged_lowest x h = grind (arith, nat_tests)

  merged_stands : (n g : ℕ) → f g ≤ g → f u ≡ u → (ltb g n && eqb (merged u v (f g)) g) ≡ ((ltb g n && eqb (f g) g) && not (eqb g v))
  merged_stands n g h k = grind (arith, nat_tests)

pub stands_less : (n : ℕ) (es : List Entry) (g : ℕ) → stands n es g ≡ true → g < n
stands_less n es g h = grind (arith, nat_tests)

pub stands_own : (n : ℕ) (es : List Entry) (g : ℕ) → stands n es g ≡ true → after es g ≡ g
stands_own n es g h = grind (arith, nat_tests)

pub stands_from : (n : ℕ) (es : List Entry) (g : ℕ) → g < n → after es g ≡ g → stands n es g ≡ true
stands_from n es g l h = grind (arith, nat_tests)

-- a unit's group stands
pub lands : (n : ℕ) (es : List Entry) → Named n es → (x : ℕ) → x < n → stands n es (after es x) ≡ true
lands n es named x l = stands_from n es (after es x) (omega (arith, named.lowest x)) (named.own x)

module _ (n : ℕ) (es : List Entry) (e : Entry) (named : Named n es) (low : stands n es e.low ≡ true) (high : stands n es e.high ≡ true) (less : e.low < e.high) where
  pub stands_more : (g : ℕ) → stands n (es ++ (e ∷ [])) g ≡ (stands n es g && not (eqb g e.high))
  stands_more g = ap (λ k. ltb g n && eqb k g) (after_more es e g) ∙ merged_stands (after es) e.low e.high less n g (named.lowest g) (stands_own n es e.low low)

  pub named_more : Named n (es ++ (e ∷ []))
  named_more = record {
    own = λ x. ap (after (es ++ (e ∷ []))) (after_more es e x) ∙ after_more es e _ ∙ merged_own (after es) e.low e.high less x (named.own x) (stands_own n es e.low low) ∙ sym (after_more es e x);
    lowest = λ x. rw (after_more es e x) (merged_lowest (after es) e.low e.high less x (named.lowest x));
    outside = λ x h. after_more es e x ∙ ap (merged e.low e.high) (named.outside x h) ∙ (let k = stands_less n es e.high high in grind (arith, nat_tests));
    fewer =
        let a = count_same n (stands n (es ++ (e ∷ []))) (but (stands n es) e.high) (λ x h. stands_more x) in
        let b = count_but n (stands n es) e.high (stands_less n es e.high high) high in
        let c = named.fewer in
        let d = length-append es (e ∷ []) in
        omega arith;
  }

named_joins : (n : ℕ) (done es : List Entry) → Named n done → Joins n done es → Named n (done ++ es)
named_joins n done [] named j = rw (append-nil done) named
named_joins n done (e ∷ es) named (low, high, less, rest) =
    subst (Named n) (append_assoc done (e ∷ []) es) (named_joins n (done ++ (e ∷ [])) es (named_more n done e named low high less) rest)

pub named : (n : ℕ) (es : List Entry) → Joins n [] es → Named n es
named n es j = named_joins n [] es (named_none n) j

-- one merger more at the end
pub joins_more : (n : ℕ) (done es : List Entry) (e : Entry) → Joins n done es → stands n (done ++ es) e.low ≡ true → stands n (done ++ es) e.high ≡ true → e.low < e.high → Joins n done (es ++ (e ∷ []))
joins_more n done [] e j low high less =
    (subst (λ d. stands n d e.low ≡ true) (append-nil done) low, subst (λ d. stands n d e.high ≡ true) (append-nil done) high, less, tt)
joins_more n done (a ∷ es) e (p, q, r, rest) low high less =
    (p, q, r, joins_more n (done ++ (a ∷ [])) es e rest (subst (λ d. stands n d e.low ≡ true) (sym (append_assoc done (a ∷ []) es)) low) (subst (λ d. stands n d e.high ≡ true) (sym (append_assoc done (a ∷ []) es)) high) less)

pub joins_take : (n : ℕ) (done es : List Entry) (k : ℕ) → Joins n done es → Joins n done (take k es)
joins_take n done [] zero j = tt
joins_take n done [] (suc k) j = tt
joins_take n done (e ∷ es) zero j = tt
joins_take n done (e ∷ es) (suc k) (p, q, r, rest) = (p, q, r, joins_take n (done ++ (e ∷ [])) es k rest)

-- where two groups stand, each is a division
pub group_division : (n : ℕ) (es : List Entry) → Named n es → length es + 2 ≤ n → (g : ℕ) → stands n es g ≡ true → Division n (group es g)
group_division n es named room g h =
    let count = named.fewer in
    let (w, lw, pw, apart) = another n (stands n es) g (stands_less n es g h) h (omega arith) in
    let own = stands_own n es w pw in
    let own-g = stands_own n es g h in
    record { some = (g, stands_less n es g h, rw own-g (grind (arith, nat_tests))); not_all = (w, lw, rw own (grind (arith, nat_tests))) }

-- S is the same at a unit and at its group
pub whole_own : (n : ℕ) (es : List Entry) (S : ℕ → Bool) → Named n es → Whole n es S → (x : ℕ) → S x ≡ S (after es x)
whole_own n es S named whole x =
    ⊎_elim (λ (l : x < n). whole x (after es x) l (omega (arith, named.lowest x)) (sym (named.own x)))
    (λ (g : n ≤ x). ap S (sym (named.outside x g))) (cases_lt x n)

pub own_whole : (n : ℕ) (es : List Entry) (S : ℕ → Bool) → ((x : ℕ) → S x ≡ S (after es x)) → Whole n es S
own_whole n es S h x y lx ly e = h x ∙ ap S e ∙ sym (h y)

pub groups_named : GroupsNamed
groups_named n es joins = let names = named n es joins in (names.lowest, names.own, names.fewer)
