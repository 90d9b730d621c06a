-- The turn of a group that was taken: how keys and found pairs grow as one group after another is raised.
use Rattle.std.proofs.Common.{◌≡◌, ℕ, ◌+◌, ◌<◌, ◌≤◌, Bool, true, false, cond, not, ◌&&◌, eqb, ltb, List, [], ◌∷◌, ◌++◌, Option, sym, ap, ◌∙◌, ⊎_elim, append_assoc, append-nil, add-one, arith}
use Rattle.std.proofs.lemmas.Bool.Decides.{nat_tests}
use Rattle.std.proofs.lemmas.Bool.{cases_eq, cond-true, cond-false, and_parts, and_left, and_right, and_from, or_parts, not-true, eqb-false}
use Rattle.weights.specs.declared.weight.Weight.{Ghosts}
use Rattle.weights.specs.Laws.{limit}
use Rattle.cuts.specs.declared.entry.Entry.{Entry}
use Rattle.cuts.specs.Kinds.{Kind, kind_of, Lawful, above}
use Rattle.cuts.specs.Links.{Link, Sound}
use Rattle.cuts.specs.Groups.{stands, joint}
use Rattle.cuts.specs.Scans.{has, key, raised, finds, Order}
use Rattle.cuts.proofs.Sums.{right}
use Rattle.cuts.proofs.Facts.{sums_fit, key_more}
use Rattle.tables.specs.Meaning.{Holds}
use Rattle.scans.specs.Waits.{Marks, Waits}

-- the groups that stand and were not taken
abbrev pub rest : ℕ → List Entry → List ℕ → ℕ → Bool
rest n es taken x = stands n es x && not (has taken x)

module _ {W : Type 0} (g : Ghosts W) (n : ℕ) (ls : List (Link g.Value)) (es : List Entry) where
  -- each group that was not taken waits, with what joins it to those taken for its key
  abbrev pub Keyed : List ℕ → (ℕ → Option W) → Type 0
  Keyed taken keys = Waits g.value keys (rest n es taken) (key (kind_of g) n ls es taken)

  -- v was taken after others, and the rest still wait with the keys that they had before
  pub record Turn (taken : List ℕ) (v : ℕ) (table : List W) (keys : ℕ → Option W) (marks : List Bool) : Type 0 where
    pub sound : Sound (kind_of g) n ls
    pub holds : Holds g n ls es table
    pub order : Order (kind_of g) n ls es (v ∷ taken)
    pub waits : Waits g.value keys (rest n es (v ∷ taken)) (key (kind_of g) n ls es taken)
    pub marked : Marks marks (rest n es (v ∷ taken))

-- one that is left is not the one taken last, and was left before
pub rest_stands : (n : ℕ) (es : List Entry) (taken : List ℕ) (x : ℕ) → rest n es taken x ≡ true → (stands n es x ≡ true) × (has taken x ≡ false)
rest_stands n es taken x h = let p = and_parts (stands n es x) (not (has taken x)) h in (p.0, not-true _ p.1)

pub rest_apart : (n : ℕ) (es : List Entry) (v : ℕ) (taken : List ℕ) (x : ℕ) → rest n es (v ∷ taken) x ≡ true → v ≡ x → ⊥
rest_apart n es v taken x h e = eqb-false x v (or_parts (eqb x v) (has taken x) (rest_stands n es (v ∷ taken) x h).1).0 (sym e)

module _ {V : Type 0} (K : Kind V) (n : ℕ) (ls : List (Link V)) (es : List Entry) (v : ℕ) (taken : List ℕ) where
  -- the keys in the turn of v, once the groups below w are raised
  abbrev pub mixed : ℕ → ℕ → V
  mixed w x = cond (ltb x w) (key K n ls es (v ∷ taken) x) (key K n ls es taken x)

  pub mixed_old : (w x : ℕ) → w ≤ x → mixed w x ≡ key K n ls es taken x
  mixed_old w x h = cond-false (ltb x w) _ _ (grind (arith, nat_tests))

  pub mixed_new : (w x : ℕ) → x < w → mixed w x ≡ key K n ls es (v ∷ taken) x
  mixed_new w x h = cond-true (ltb x w) _ _ (grind (arith, nat_tests))

  pub mixed_apart : (w x : ℕ) → (x ≡ w → ⊥) → mixed w x ≡ mixed (w + 1) x
  mixed_apart w x ne = ap (λ b. cond b (key K n ls es (v ∷ taken) x) (key K n ls es taken x)) (same w x ne)
    where
      same : (w x : ℕ) → (x ≡ w → ⊥) → ltb x w ≡ ltb x (w + 1)
      same w x ne = grind (arith, nat_tests)

  -- the key of w stays
  pub mixed_same : (w : ℕ) → (rest n es (v ∷ taken) w ≡ true → key K n ls es (v ∷ taken) w ≡ key K n ls es taken w) → (x : ℕ) → rest n es (v ∷ taken) x ≡ true → mixed w x ≡ mixed (w + 1) x
  mixed_same w same x o = ⊎_elim
      (λ (e : x ≡ w). rw e (mixed_old w w (omega arith) ∙ sym (same (rw e at o)) ∙ sym (mixed_new (w + 1) w (omega arith))))
      (λ (ne : x ≡ w → ⊥). mixed_apart w x ne)
      (cases_eq x w)

  finds_more : (bound : V) (w : ℕ) → finds K n ls es bound v taken (w + 1) ≡ finds K n ls es bound v taken w ++ cond (raised K n ls es bound v taken w) ((v, w) ∷ []) []
  finds_more bound w = ap (finds K n ls es bound v taken) (add-one w)

  -- one group more, which is not found, or is
  pub finds_not : (pairs : List (ℕ × ℕ)) (bound : V) (w : ℕ) → raised K n ls es bound v taken w ≡ false → pairs ++ finds K n ls es bound v taken w ≡ pairs ++ finds K n ls es bound v taken (w + 1)
  finds_not pairs bound w h = ap (λ r. pairs ++ r) (sym (finds_more bound w ∙ ap (λ r. finds K n ls es bound v taken w ++ r) (cond-false _ ((v, w) ∷ []) [] h) ∙ append-nil _))

  pub finds_one : (pairs : List (ℕ × ℕ)) (bound : V) (w : ℕ) → raised K n ls es bound v taken w ≡ true → (pairs ++ finds K n ls es bound v taken w) ++ ((v, w) ∷ []) ≡ pairs ++ finds K n ls es bound v taken (w + 1)
  finds_one pairs bound w h = append_assoc pairs _ _ ∙ ap (λ r. pairs ++ r) (sym (finds_more bound w ∙ ap (λ r. finds K n ls es bound v taken w ++ r) (cond-true _ ((v, w) ∷ []) [] h)))

  module _ (bound : V) (w : ℕ) where
    pub gone_not : rest n es (v ∷ taken) w ≡ false → raised K n ls es bound v taken w ≡ false
    gone_not h = and_left _ _ h

    pub light_not : K.at_most (joint K ls es v w) K.nothing ≡ true → raised K n ls es bound v taken w ≡ false
    light_not h = and_right (rest n es (v ∷ taken) w) _ (and_left (above K (joint K ls es v w)) _ (cond-true _ false true h))

    pub short_not : K.at_most bound (key K n ls es (v ∷ taken) w) ≡ false → raised K n ls es bound v taken w ≡ false
    short_not h = and_right (rest n es (v ∷ taken) w) _ (and_right (above K (joint K ls es v w)) _ h)

    pub reached_is : rest n es (v ∷ taken) w ≡ true → K.at_most (joint K ls es v w) K.nothing ≡ false → K.at_most bound (key K n ls es (v ∷ taken) w) ≡ true → raised K n ls es bound v taken w ≡ true
    reached_is o heavy h = and_from _ _ o (and_from _ _ (cond-false _ false true heavy) h)

  module _ (laws : Lawful K) (sound : Sound K n ls) (w : ℕ) where
    pub raise_fits : K.amount (key K n ls es taken w) + K.amount (joint K ls es v w) ≤ limit
    raise_fits = sums_fit K laws n ls sound _ _

    -- nothing is added
    pub unraised : has taken v ≡ false → has (v ∷ taken) w ≡ false → K.at_most (joint K ls es v w) K.nothing ≡ true → key K n ls es (v ∷ taken) w ≡ key K n ls es taken w
    unraised out left light =
        let fit = raise_fits in
        let none = laws.antisym (joint K ls es v w) K.nothing (omega arith) (omega (arith, laws.none)) light (laws.least _ (omega arith)) in
        key_more K laws n ls sound es v taken w out left ∙ ap (K.plus (key K n ls es taken w)) none ∙ right K laws _ (omega arith)
