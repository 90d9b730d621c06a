-- What a table and groups that a plan explains say of a pair of groups.
use Rattle.std.proofs.Common.{◌≡◌, ℕ, ◌+◌, ◌<◌, Bool, true, false, cond, not, ◌&&◌, ◌||◌, eqb, List, get_or, sym, ap, ◌∙◌, ap₂, add-one, arith}
use Rattle.std.proofs.lemmas.Bool.{cond-true, cond-false}
use Rattle.std.proofs.lemmas.Bool.Decides.{nat_tests}
use Rattle.weights.specs.declared.weight.Weight.{Ghosts}
use Rattle.cuts.specs.declared.entry.Entry.{Entry}
use Rattle.cuts.specs.declared.ground.Ground.{Ground}
use Rattle.cuts.specs.Kinds.{Kind, kind_of, above, lesser}
use Rattle.cuts.specs.Links.{Link}
use Rattle.cuts.specs.Groups.{stands, degree, joint}
use Rattle.cuts.specs.Tests.{third, gathered, Pair, Meets}
use Rattle.tables.specs.declared.groups.Groups.{Groups}
use Rattle.tables.specs.Meaning.{at, Explains}
use Rattle.passes.specs.Passed.{Standing}

-- with the third group w, the degree of a is at most twice what joins it to the other two
abbrev pub by_third : {V : Type 0} → Kind V → List (Link V) → List Entry → ℕ → ℕ → ℕ → ℕ → Bool
by_third K ls es u v a w = K.at_most (degree K ls es a) (K.plus (K.plus (joint K ls es u v) (joint K ls es a w)) (K.plus (joint K ls es u v) (joint K ls es a w)))

-- the pair a, b, if it is one, meets no test
abbrev pub PassedOver : {V : Type 0} → Kind V → ℕ → List (Link V) → List Entry → V → ℕ → ℕ → Type 0
PassedOver K n ls es best a b = Pair K n ls es a b → (other : Ground) → Meets K n ls es best a b other → ⊥

pub third_apart : (n : ℕ) (es : List Entry) (u v w : ℕ) → third n es u v w ≡ true → (stands n es w ≡ true) × (u ≡ w → ⊥) × (v ≡ w → ⊥)
third_apart n es u v w h = (grind (arith, nat_tests), grind (arith, nat_tests), grind (arith, nat_tests))

-- one group more in the sum of a neighbourhood
module _ {V : Type 0} (K : Kind V) (n : ℕ) (ls : List (Link V)) (es : List Entry) (u v k : ℕ) where
  pub gathered_skip : third n es u v k ≡ false → gathered K n ls es u v (k + 1) ≡ gathered K n ls es u v k
  gathered_skip e = ap (gathered K n ls es u v) (add-one k) ∙ cond-false (third n es u v k) _ _ e

  gathered_more : third n es u v k ≡ true → gathered K n ls es u v (k + 1) ≡ K.plus (gathered K n ls es u v k) (lesser K (joint K ls es u k) (joint K ls es v k))
  gathered_more e = ap (gathered K n ls es u v) (add-one k) ∙ cond-true (third n es u v k) _ _ e

-- the mark of a group that is neither of a pair
abbrev pub third_mark : Groups → ℕ → ℕ → ℕ → Bool
third_mark groups u v w = get_or groups.standing w false && not (eqb w u || eqb w v)

pub standing : (groups : Groups) (n u v : ℕ) → true ≡ get_or groups.standing u false → true ≡ get_or groups.standing v false → u < v → v < n → Standing groups n u v
standing groups n u v low high order within = record { low = sym low; high = sym high; order = order; within = within }

module _ {W : Type 0} {g : Ghosts W} {n : ℕ} {ls : List (Link g.Value)} {es : List Entry} {table : List W} {groups : Groups} (ex : Explains g n ls es table groups) where
  -- a group is marked as it stands
  pub marked : (w : ℕ) (r : Bool) → w < n → r ≡ get_or groups.standing w false → stands n es w ≡ r
  marked w r lt e = sym (e ∙ ex.tracks.standing w lt)

  pub third_marked : (u v w : ℕ) (r : Bool) → w < n → r ≡ third_mark groups u v w → third n es u v w ≡ r
  third_marked u v w r lt e = sym (e ∙ ap (λ s. s && not (eqb w u || eqb w v)) (ex.tracks.standing w lt))

  module _ {u v : ℕ} (pair : Standing groups n u v) where
    pub low : stands n es u ≡ true
    low = marked u true (omega arith) (sym pair.low)

    pub high : stands n es v ≡ true
    high = marked v true pair.within (sym pair.high)

    pub apart : u ≡ v → ⊥
    apart e = omega arith

    pub joint_at : at g table n u v ≡ joint (kind_of g) ls es u v
    joint_at = ex.holds.joints u v low high apart

    -- whether the joint weight is above nothing
    pub above_at : (x y : g.Value) (r : Bool) → x ≡ at g table n u v → y ≡ g.zero → r ≡ g.le x y → above (kind_of g) (joint (kind_of g) ls es u v) ≡ cond r false true
    above_at x y r here none t = sym (ap (λ b. cond b false true) (t ∙ ap₂ g.le (here ∙ joint_at) none))

    pub degree_low : at g table n u u ≡ degree (kind_of g) ls es u
    degree_low = ex.holds.degrees u low

    pub degree_high : at g table n v v ≡ degree (kind_of g) ls es v
    degree_high = ex.holds.degrees v high

    -- a third group, as the code finds it
    module _ (w : ℕ) (lt : w < n) (is : true ≡ third_mark groups u v w) where
      pub third_is : third n es u v w ≡ true
      third_is = third_marked u v w true lt is

      pub third_low : at g table n u w ≡ joint (kind_of g) ls es u w
      third_low = let t = third_apart n es u v w third_is in ex.holds.joints u w low t.0 t.1

      pub third_high : at g table n v w ≡ joint (kind_of g) ls es v w
      third_high = let t = third_apart n es u v w third_is in ex.holds.joints v w high t.0 t.2

      pub lesser_third : (x a b : g.Value) → a ≡ at g table n u w → b ≡ at g table n v w → x ≡ lesser (kind_of g) a b → x ≡ lesser (kind_of g) (joint (kind_of g) ls es u w) (joint (kind_of g) ls es v w)
      lesser_third x a b p q e = e ∙ ap₂ (lesser (kind_of g)) (p ∙ third_low) (q ∙ third_high)

      -- the sum of a neighbourhood with it
      pub gathered_third : (s x a b next : g.Value) → s ≡ gathered (kind_of g) n ls es u v w → a ≡ at g table n u w → b ≡ at g table n v w → x ≡ lesser (kind_of g) a b → next ≡ g.plus s x → next ≡ gathered (kind_of g) n ls es u v (w + 1)
      gathered_third s x a b next sum p q e t = t ∙ ap₂ g.plus sum (lesser_third x a b p q e) ∙ sym (gathered_more (kind_of g) n ls es u v w third_is)

      -- what is tested of it
      module _ (d x y s : g.Value) (r : Bool) (here : x ≡ at g table n u v) (sum : s ≡ g.plus x y) (test : r ≡ g.le d (g.plus s s)) where
        pub test_low : d ≡ at g table n u u → y ≡ at g table n u w → by_third (kind_of g) ls es u v u w ≡ r
        test_low a b =
            let p = here ∙ joint_at in
            let q = a ∙ degree_low in
            let t = b ∙ third_low in
            cc

        pub test_high : d ≡ at g table n v v → y ≡ at g table n v w → by_third (kind_of g) ls es u v v w ≡ r
        test_high a b =
            let p = here ∙ joint_at in
            let q = a ∙ degree_high in
            let t = b ∙ third_high in
            cc
