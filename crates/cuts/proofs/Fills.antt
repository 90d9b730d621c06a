-- Sums over the first links of a plan, as they grow link by link.
use Rattle.std.proofs.Common.{◌≡◌, ℕ, ◌+◌, ◌≤◌, Bool, true, false, cond, ◌&&◌, List, [], ◌∷◌, ◌++◌, sym, refl, ap, ◌∙◌, arith}
use Rattle.weights.specs.Laws.{limit}
use Rattle.cuts.specs.Kinds.{Kind, Lawful}
use Rattle.cuts.specs.Links.{Link, sum, load, Ends, Sound}
use Rattle.cuts.proofs.Facts.{sum_amount}

load_append : {V : Type 0} (K : Kind V) (ps qs : List (Link V)) → load K (ps ++ qs) ≡ load K ps + load K qs
unfolding load
load_append K [] qs = omega arith
load_append K (p ∷ ps) qs = let ih = load_append K ps qs in omega arith

ends_front : {V : Type 0} (n : ℕ) (ps qs : List (Link V)) → Ends n (ps ++ qs) → Ends n ps
unfolding Ends
ends_front n [] qs e = tt
ends_front n (p ∷ ps) qs e = (e.0, e.1, ends_front n ps qs e.2)

-- the first links of a sound plan are sound
pub sound_front : {V : Type 0} (K : Kind V) (n : ℕ) (ps qs : List (Link V)) → Sound K n (ps ++ qs) → Sound K n ps
sound_front K n ps qs sound = let a = load_append K ps qs in let b = sound.light in record { ends = ends_front n ps qs sound.ends; light = omega arith }

load_one : {V : Type 0} (K : Kind V) (l : Link V) (qs : List (Link V)) → load K (l ∷ qs) ≡ cond l.in_service (K.amount l.weight) 0 + load K qs
unfolding load
load_one K l qs = refl

module _ {V : Type 0} (K : Kind V) (laws : Lawful K) (test : ℕ → ℕ → Bool) where
  -- the next link in service can be added to the sum so far
  pub next_fits : (n : ℕ) (ps qs : List (Link V)) (l : Link V) → Sound K n (ps ++ (l ∷ qs)) → l.in_service ≡ true → K.amount (sum K test ps) + K.amount l.weight ≤ limit
  next_fits n ps qs l sound on =
      let a = load_append K ps (l ∷ qs) in
      let b = load_one K l qs in
      let c : cond l.in_service (K.amount l.weight) 0 ≡ K.amount l.weight = ap (λ s. cond s (K.amount l.weight) 0) on in
      let d = sound.light in
      let e = sum_amount K laws test ps (omega arith) in
      omega arith

  -- the sum with one link more at the end
  pub sum_more : (ps : List (Link V)) (l : Link V) → load K (ps ++ (l ∷ [])) ≤ limit → sum K test (ps ++ (l ∷ [])) ≡ cond (l.in_service && test l.first l.second) (K.plus (sum K test ps) l.weight) (sum K test ps)
  unfolding sum
  sum_more [] l light = go l.in_service (test l.first l.second) (load_one K l []) light
    where
      go : (b t : Bool) → load K (l ∷ []) ≡ cond b (K.amount l.weight) 0 + load {V = V} K [] → load K (l ∷ []) ≤ limit → cond (b && t) (K.plus l.weight K.nothing) K.nothing ≡ cond (b && t) (K.plus K.nothing l.weight) K.nothing
      go true true e h = laws.comm l.weight K.nothing (omega (arith, laws.none))
      go true false e h = refl
      go false t e h = refl
  sum_more (p ∷ ps) l light =
      let a = load_one K p (ps ++ (l ∷ [])) in
      let b = load_append K ps (l ∷ []) in
      let c = load_one K l [] in
      go p.in_service (test p.first p.second) l.in_service (test l.first l.second) (omega arith) (sum_more ps l (omega arith))
    where
      go : (b t d u : Bool) → cond b (K.amount p.weight) 0 + (load K ps + cond d (K.amount l.weight) 0) ≤ limit
          → sum K test (ps ++ (l ∷ [])) ≡ cond (d && u) (K.plus (sum K test ps) l.weight) (sum K test ps)
          → cond (b && t) (K.plus p.weight (sum K test (ps ++ (l ∷ [])))) (sum K test (ps ++ (l ∷ [])))
          ≡ cond (d && u) (K.plus (cond (b && t) (K.plus p.weight (sum K test ps)) (sum K test ps)) l.weight) (cond (b && t) (K.plus p.weight (sum K test ps)) (sum K test ps))
      go true true true true h ih = let s = sum_amount K laws test ps (omega arith) in ap (K.plus p.weight) ih ∙ sym (laws.assoc p.weight (sum K test ps) l.weight (omega arith))
      go true true true false h ih = ap (K.plus p.weight) ih
      go true true false u h ih = ap (K.plus p.weight) ih
      go true false d u h ih = ih
      go false t d u h ih = ih
