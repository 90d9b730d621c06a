-- A weakest division stays weakest under the edits of the table.
use Rattle.std.proofs.Common.{◌≡◌, ℕ, ◌+◌, ◌≤◌, Bool, true, false, cond, ◌&&◌, ◌⊎◌, List, [], ◌∷◌, ◌++◌, sym, refl, ap, ◌∙◌, inl, inr, ⊎_elim, append-nil, arith}
use Rattle.std.proofs.lemmas.Bool.{cases_Bool}
use Rattle.weights.specs.Laws.{limit}
use Rattle.cuts.specs.Kinds.{Kind, Lawful, AtMost}
use Rattle.cuts.specs.Links.{Link, sum, load}
use Rattle.cuts.specs.Divisions.{Division, differ, weight_of, Weakest}
use Rattle.cuts.specs.Edits.{reweighed, marked, OneSide, DifferentSides, adds, ChangeKeeps, EditsKeep}
use Rattle.cuts.proofs.Sums.{same, left_comm}
use Rattle.cuts.proofs.Moves.{differing}
use Rattle.cuts.proofs.Facts.{sum_amount}

-- the amount of what a link adds
abbrev size : {V : Type 0} → Kind V → Link V → ℕ
size K l = cond l.in_service (K.amount l.weight) 0

load_split : {V : Type 0} (K : Kind V) (ps qs : List (Link V)) (l : Link V) → load K (ps ++ (l ∷ qs)) ≡ size K l + load K (ps ++ qs)
unfolding load
load_split K [] qs l = refl
load_split K (p ∷ ps) qs l = let ih = load_split K ps qs l in omega arith

module _ {V : Type 0} (K : Kind V) (laws : Lawful K) where
  adds_amount : (l : Link V) → K.amount (adds K l) ≡ size K l
  adds_amount l = go l.in_service
    where
      go : (b : Bool) → K.amount (cond b l.weight K.nothing) ≡ cond b (K.amount l.weight) 0
      go true = refl
      go false = laws.none

  -- one link can be taken out of a sum
  sum_split : (test : ℕ → ℕ → Bool) (ps qs : List (Link V)) (l : Link V) → load K (ps ++ (l ∷ qs)) ≤ limit
      → sum K test (ps ++ (l ∷ qs)) ≡ cond (test l.first l.second) (K.plus (adds K l) (sum K test (ps ++ qs))) (sum K test (ps ++ qs))
  unfolding sum
  sum_split test [] qs l light = go l.in_service (test l.first l.second)
    where
      fit : K.amount (sum K test qs) ≤ limit
      fit = let s = load_split K [] qs l in let a = sum_amount K laws test qs (omega arith) in omega arith

      go : (b t : Bool) → cond (b && t) (K.plus l.weight (sum K test qs)) (sum K test qs) ≡ cond t (K.plus (cond b l.weight K.nothing) (sum K test qs)) (sum K test qs)
      go true t = refl
      go false true = sym (laws.neutral _ fit)
      go false false = refl
  sum_split test (p ∷ ps) qs l light =
      go p.in_service (test p.first p.second) (test l.first l.second) (rw (load_split K (p ∷ ps) qs l, load_split K [] (ps ++ qs) p) at light)
      (sum_split test ps qs l (omega (arith, load_split K [] (ps ++ (l ∷ qs)) p)))
    where
      go : (b t c : Bool) → size K l + (cond b (K.amount p.weight) 0 + load K (ps ++ qs)) ≤ limit
          → sum K test (ps ++ (l ∷ qs)) ≡ cond c (K.plus (adds K l) (sum K test (ps ++ qs))) (sum K test (ps ++ qs))
          → cond (b && t) (K.plus p.weight (sum K test (ps ++ (l ∷ qs)))) (sum K test (ps ++ (l ∷ qs)))
          ≡ cond c (K.plus (adds K l) (cond (b && t) (K.plus p.weight (sum K test (ps ++ qs))) (sum K test (ps ++ qs)))) (cond (b && t) (K.plus p.weight (sum K test (ps ++ qs))) (sum K test (ps ++ qs)))
      go true true true fit ih =
          let a = sum_amount K laws test (ps ++ qs) (omega arith) in
          let b = adds_amount l in
          ap (K.plus p.weight) ih ∙ left_comm K laws p.weight (adds K l) (sum K test (ps ++ qs)) (omega arith)
      go true true false fit ih = ap (K.plus p.weight) ih
      go true false c fit ih = ih
      go false t c fit ih = ih

  module _ (ps qs : List (Link V)) (l : Link V) (light : load K (ps ++ (l ∷ qs)) + load K (ps ++ (l ∷ qs)) ≤ limit) (S : ℕ → Bool) where
    rest_fits : K.amount (adds K l) + K.amount (weight_of K (ps ++ qs) S) ≤ limit
    rest_fits =
        let s = load_split K ps qs l in
        let a = sum_amount K laws (λ x y. differ (S x) (S y)) (ps ++ qs) (omega arith) in
        let b = adds_amount l in
        omega arith

    -- a division that parts the ends, and one that does not
    parts : differ (S l.first) (S l.second) ≡ true → weight_of K (ps ++ (l ∷ qs)) S ≡ K.plus (adds K l) (weight_of K (ps ++ qs) S)
    parts e =
        sum_split (λ x y. differ (S x) (S y)) ps qs l (omega arith)
        ∙ ap (λ b. cond b (K.plus (adds K l) (weight_of K (ps ++ qs) S)) (weight_of K (ps ++ qs) S)) e

    passes : differ (S l.first) (S l.second) ≡ false → weight_of K (ps ++ (l ∷ qs)) S ≡ weight_of K (ps ++ qs) S
    passes e =
        sum_split (λ x y. differ (S x) (S y)) ps qs l (omega arith)
        ∙ ap (λ b. cond b (K.plus (adds K l) (weight_of K (ps ++ qs) S)) (weight_of K (ps ++ qs) S)) e

differ_same : (a b : Bool) → a ≡ b → differ a b ≡ false
differ_same a b e = grind arith

differ_apart : (a b : Bool) → (a ≡ b → ⊥) → differ a b ≡ true
differ_apart a b e = grind arith

module _ {V : Type 0} (K : Kind V) (laws : Lawful K) (n : ℕ) (S : ℕ → Bool) (ps qs : List (Link V)) (l m : Link V) (e₁ : m.first ≡ l.first) (e₂ : m.second ≡ l.second)
    (light-l : load K (ps ++ (l ∷ qs)) + load K (ps ++ (l ∷ qs)) ≤ limit) (light-m : load K (ps ++ (m ∷ qs)) + load K (ps ++ (m ∷ qs)) ≤ limit) (weakest : Weakest K n (ps ++ (l ∷ qs)) S) where
  fit : (k : Link V) → load K (ps ++ (k ∷ qs)) + load K (ps ++ (k ∷ qs)) ≤ limit → (D : ℕ → Bool) → K.amount (weight_of K (ps ++ (k ∷ qs)) D) ≤ limit
  fit k light D = let a = sum_amount K laws (λ x y. differ (D x) (D y)) (ps ++ (k ∷ qs)) (omega arith) in omega arith

  -- the ends are the same
  ends : (D : ℕ → Bool) → differ (D m.first) (D m.second) ≡ differ (D l.first) (D l.second)
  ends D = rw (e₁, e₂)

  adds_more : (k j : Link V) (light-k : load K (ps ++ (k ∷ qs)) + load K (ps ++ (k ∷ qs)) ≤ limit) (light-j : load K (ps ++ (j ∷ qs)) + load K (ps ++ (j ∷ qs)) ≤ limit) (D : ℕ → Bool) → AtMost K (adds K k) (adds K j) → AtMost K (K.plus (adds K k) (weight_of K (ps ++ qs) D)) (K.plus (adds K j) (weight_of K (ps ++ qs) D))
  adds_more k j light-k light-j D h = laws.grow _ _ _ (rest_fits K laws ps qs k light-k D) (rest_fits K laws ps qs j light-j D) h

  one_side : S l.first ≡ S l.second → AtMost K (adds K l) (adds K m) → (D : ℕ → Bool) → Division n D → AtMost K (weight_of K (ps ++ (m ∷ qs)) S) (weight_of K (ps ++ (m ∷ qs)) D)
  one_side level h D division =
      let here = differ_same _ _ level in
      let kept = passes K laws ps qs m light-m S (ends S ∙ here) ∙ sym (passes K laws ps qs l light-l S here) in
      rw kept
      (laws.trans _ _ _ (fit l light-l S) (fit l light-l D) (fit m light-m D) (weakest.least D division)
      (⊎_elim
      (λ (t : differ (D l.first) (D l.second) ≡ true). rw (parts K laws ps qs l light-l D t, parts K laws ps qs m light-m D (ends D ∙ t)) (adds_more l m light-l light-m D h))
      (λ (f : differ (D l.first) (D l.second) ≡ false). rw (passes K laws ps qs m light-m D (ends D ∙ f), sym (passes K laws ps qs l light-l D f)) (same' D))
      (cases_Bool (differ (D l.first) (D l.second)))))
    where
      same' : (D : ℕ → Bool) → AtMost K (weight_of K (ps ++ (l ∷ qs)) D) (weight_of K (ps ++ (l ∷ qs)) D)
      same' D = same K laws _ (fit l light-l D)

  different_sides : (S l.first ≡ S l.second → ⊥) → AtMost K (adds K m) (adds K l) → (D : ℕ → Bool) → Division n D → AtMost K (weight_of K (ps ++ (m ∷ qs)) S) (weight_of K (ps ++ (m ∷ qs)) D)
  different_sides far h D division =
      let here = differ_apart _ _ far in
      let was = rw (parts K laws ps qs l light-l S here) at (weakest.least D division) in
      rw (parts K laws ps qs m light-m S (ends S ∙ here))
      (⊎_elim
      (λ (t : differ (D l.first) (D l.second) ≡ true).
      let both = rw (parts K laws ps qs l light-l D t, comm l light-l S, comm l light-l D) at was in
      let less = laws.shrink _ _ _ (turned l light-l S) (turned l light-l D) both in
      rw (parts K laws ps qs m light-m D (ends D ∙ t), comm m light-m S, comm m light-m D) (laws.grow _ _ _ (turned m light-m S) (turned m light-m D) less))
      (λ (f : differ (D l.first) (D l.second) ≡ false).
      let was' = rw (passes K laws ps qs l light-l D f) at was in
      rw (passes K laws ps qs m light-m D (ends D ∙ f))
      (laws.trans _ _ _ (sums m light-m S) (sums l light-l S) (alone l light-l D) (adds_more m l light-m light-l S h) was'))
      (cases_Bool (differ (D l.first) (D l.second))))
    where
      comm : (k : Link V) (light : load K (ps ++ (k ∷ qs)) + load K (ps ++ (k ∷ qs)) ≤ limit) (D : ℕ → Bool) → K.plus (adds K k) (weight_of K (ps ++ qs) D) ≡ K.plus (weight_of K (ps ++ qs) D) (adds K k)
      comm k light D = laws.comm _ _ (rest_fits K laws ps qs k light D)

      turned : (k : Link V) (light : load K (ps ++ (k ∷ qs)) + load K (ps ++ (k ∷ qs)) ≤ limit) (D : ℕ → Bool) → K.amount (weight_of K (ps ++ qs) D) + K.amount (adds K k) ≤ limit
      turned k light D = let r = rest_fits K laws ps qs k light D in omega arith

      sums : (k : Link V) (light : load K (ps ++ (k ∷ qs)) + load K (ps ++ (k ∷ qs)) ≤ limit) (D : ℕ → Bool) → K.amount (K.plus (adds K k) (weight_of K (ps ++ qs) D)) ≤ limit
      sums k light D = let r = rest_fits K laws ps qs k light D in omega (arith, laws.amounts _ _ r)

      alone : (k : Link V) (light : load K (ps ++ (k ∷ qs)) + load K (ps ++ (k ∷ qs)) ≤ limit) (D : ℕ → Bool) → K.amount (weight_of K (ps ++ qs) D) ≤ limit
      alone k light D = let r = rest_fits K laws ps qs k light D in omega arith

module _ {V : Type 0} (K : Kind V) (laws : Lawful K) where
  abbrev Light : List (Link V) → Type 0
  Light ls = load K ls + load K ls ≤ limit

  change : (n : ℕ) (S : ℕ → Bool) (ps qs : List (Link V)) (l m : Link V) → m.first ≡ l.first → m.second ≡ l.second
      → (OneSide S l × AtMost K (adds K l) (adds K m)) ⊎ (DifferentSides S l × AtMost K (adds K m) (adds K l))
      → Light (ps ++ (l ∷ qs)) → Light (ps ++ (m ∷ qs)) → Weakest K n (ps ++ (l ∷ qs)) S → Weakest K n (ps ++ (m ∷ qs)) S
  change n S ps qs l m e₁ e₂ (inl (level, h)) light-l light-m w = record { division = w.division; least = one_side K laws n S ps qs l m e₁ e₂ light-l light-m w level h }
  change n S ps qs l m e₁ e₂ (inr (far, h)) light-l light-m w = record { division = w.division; least = different_sides K laws n S ps qs l m e₁ e₂ light-l light-m w far h }

  pub change_keeps_lem : ChangeKeeps K
  change_keeps_lem n S ps qs l m e₁ e₂ how sound-l sound-m = change n S ps qs l m e₁ e₂ how sound-l.light sound-m.light

  -- a link out of service adds nothing
  weight_out : (ps qs : List (Link V)) (l : Link V) → l.in_service ≡ false → (test : ℕ → ℕ → Bool) → sum K test (ps ++ (l ∷ qs)) ≡ sum K test (ps ++ qs)
  unfolding sum
  weight_out [] qs l out test = ap (λ b. cond (b && test l.first l.second) (K.plus l.weight (sum K test qs)) (sum K test qs)) out
  weight_out (p ∷ ps) qs l out test = ap (λ r. cond (p.in_service && test p.first p.second) (K.plus p.weight r) r) (weight_out ps qs l out test)

  weakest_same : (n : ℕ) (S : ℕ → Bool) (ls ms : List (Link V)) → ((D : ℕ → Bool) → weight_of K ls D ≡ weight_of K ms D) → Weakest K n ls S → Weakest K n ms S
  weakest_same n S ls ms h w = record { division = w.division; least = λ D d. rw (h S, h D) at (w.least D d) }

  light_out : (ps qs : List (Link V)) (l : Link V) → l.in_service ≡ false → load K (ps ++ (l ∷ qs)) ≡ load K (ps ++ qs)
  light_out ps qs l out = load_split K ps qs l ∙ ap (λ b. cond b (K.amount l.weight) 0 + load K (ps ++ qs)) out ∙ omega arith

  adds_fit : (ps qs : List (Link V)) (l : Link V) → Light (ps ++ (l ∷ qs)) → K.amount (adds K l) ≤ limit
  adds_fit ps qs l light = let s = load_split K ps qs l in let a = adds_amount K laws l in omega arith

  -- a link that adds as much as before
  unchanged : (n : ℕ) (S : ℕ → Bool) (ps qs : List (Link V)) (l m : Link V) → m.first ≡ l.first → m.second ≡ l.second → adds K m ≡ adds K l → Light (ps ++ (l ∷ qs)) → Light (ps ++ (m ∷ qs)) → Weakest K n (ps ++ (l ∷ qs)) S → Weakest K n (ps ++ (m ∷ qs)) S
  unchanged n S ps qs l m e₁ e₂ e light-l light-m w =
      let level = same K laws _ (adds_fit ps qs l light-l) in
      change n S ps qs l m e₁ e₂ (⊎_elim (λ on. inl (on, rw e level)) (λ far. inr (far, rw e level)) (differing (S l.first) (S l.second))) light-l light-m w

  -- a link put out of service with ends on different sides
  put_out : (n : ℕ) (S : ℕ → Bool) (ps qs : List (Link V)) (l : Link V) → DifferentSides S l → Light (ps ++ (l ∷ qs)) → Light (ps ++ qs) → Weakest K n (ps ++ (l ∷ qs)) S → Weakest K n (ps ++ (marked l false ∷ qs)) S
  put_out n S ps qs l far light-l light w =
      change n S ps qs l (marked l false) refl refl (inr (far, laws.least _ (adds_fit ps qs l light-l))) light-l (rw (light_out ps qs (marked l false) refl) light) w

  pub edits_keep_lem : EditsKeep K
  edits_keep_lem = record {
    link = λ n S ps l level before after w.
        let out = marked l false in
        let none = append-nil ps in
        let w' = weakest_same n S ps (ps ++ (out ∷ [])) (λ D. sym (weight_out ps [] out refl (λ x y. differ (D x) (D y)) ∙ ap (λ r. weight_of K r D) none)) w in
        change n S ps [] out l refl refl (inl (level, laws.least _ (adds_fit ps [] l after.light))) (rw (light_out ps [] out refl, none) before.light) after.light w';
    strike = λ n S ps qs l why before after w.
        ⊎_elim
        (λ out. weakest_same n S (ps ++ (l ∷ qs)) (ps ++ qs) (λ D. weight_out ps qs l out (λ x y. differ (D x) (D y))) w)
        (λ far. weakest_same n S (ps ++ (marked l false ∷ qs)) (ps ++ qs) (λ D. weight_out ps qs (marked l false) refl (λ x y. differ (D x) (D y))) (put_out n S ps qs l far before.light after.light w))
        why;
    mark_out = λ n S ps qs l why before after w.
        ⊎_elim
        (λ out. unchanged n S ps qs l (marked l false) refl refl (sym (ap (λ b. cond b l.weight K.nothing) out)) before.light after.light w)
        (λ far. change n S ps qs l (marked l false) refl refl (inr (far, laws.least _ (adds_fit ps qs l before.light))) before.light after.light w)
        why;
    mark_in = λ n S ps qs l why before after w.
        ⊎_elim
        (λ on. unchanged n S ps qs l (marked l true) refl refl (sym (ap (λ b. cond b l.weight K.nothing) on)) before.light after.light w)
        (λ level. change n S ps qs l (marked l true) refl refl (inl (level, more_in l.in_service l.weight (adds_fit ps qs (marked l true) after.light))) before.light after.light w)
        why;
    reweigh = λ n S ps qs l w why before after weakest.
        ⊎_elim
        (λ out. unchanged n S ps qs l (reweighed l w) refl refl (ap (λ b. cond b w K.nothing) out ∙ sym (ap (λ b. cond b l.weight K.nothing) out)) before.light after.light weakest)
        (⊎_elim
        (λ equal. unchanged n S ps qs l (reweighed l w) refl refl (ap (λ v. cond l.in_service v K.nothing) equal) before.light after.light weakest)
        (λ how. change n S ps qs l (reweighed l w) refl refl (⊎_elim (λ r. inl (r.0, in_order l.in_service l.weight w r.1)) (λ r. inr (r.0, in_order l.in_service w l.weight r.1)) how) before.light after.light weakest))
        why;
  }
    where
      none-fit : K.amount K.nothing ≤ limit
      none-fit = omega (arith, laws.none)

      more_in : (b : Bool) (w : V) → K.amount w ≤ limit → AtMost K (cond b w K.nothing) w
      more_in true w h = same K laws w h
      more_in false w h = laws.least w h

      in_order : (b : Bool) (v w : V) → AtMost K v w → AtMost K (cond b v K.nothing) (cond b w K.nothing)
      in_order true v w h = h
      in_order false v w h = same K laws _ none-fit
