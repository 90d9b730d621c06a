-- No sum that the tests of a pair form is refused.
use Rattle.std.proofs.Common.{◌≡◌, ℕ, ◌+◌, ◌<◌, ◌≤◌, Bool, true, List, sym, ◌∙◌}
use Rattle.weights.specs.Laws.{limit}
use Rattle.weights.specs.declared.weight.Weight.{Ghosts}
use Rattle.cuts.specs.declared.entry.Entry.{Entry}
use Rattle.cuts.specs.Kinds.{Lawful, kind_of, lesser}
use Rattle.cuts.specs.Links.{Link}
use Rattle.cuts.specs.Groups.{joint}
use Rattle.cuts.specs.Tests.{gathered}
use Rattle.cuts.proofs.Facts.{sums_fit, joint_sym}
use Rattle.cuts.proofs.Steps.{two_joints_fit, gathered_fits}
use Rattle.tables.specs.declared.groups.Groups.{Groups}
use Rattle.tables.specs.Meaning.{at, Explains}
use Rattle.passes.specs.Passed.{Standing}
use Rattle.passes.proofs.Readings.{third_apart, third_mark, apart, joint_at, third_is, third_low, third_high, lesser_third, gathered_third, by_third, test_low, test_high}

module _ {W : Type 0} {g : Ghosts W} {n : ℕ} {ls : List (Link g.Value)} {es : List Entry} {table : List W} {groups : Groups} (laws : Lawful (kind_of g)) (ex : Explains g n ls es table groups) {u v : ℕ} (pair : Standing groups n u v) where
  joints_fit : (a b c d : ℕ) → g.size (joint (kind_of g) ls es a b) + g.size (joint (kind_of g) ls es c d) ≤ limit
  joints_fit a b c d = sums_fit (kind_of g) laws n ls ex.sound _ _

  -- a joint weight can be doubled
  pub twice_fits : (x : g.Value) → x ≡ at g table n u v → g.size x + g.size x ≤ limit
  twice_fits x e = rw (e ∙ joint_at ex pair) (joints_fit u v u v)

  module _ (w : ℕ) (lt : w < n) (is : true ≡ third_mark groups u v w) where
    -- so can what joins one of the two to the other and to a third
    module _ (x y : g.Value) (here : x ≡ at g table n u v) where
      pub low_fits : y ≡ at g table n u w → g.size x + g.size y ≤ limit
      low_fits e = rw (here ∙ joint_at ex pair, e ∙ third_low ex pair w lt is) (joints_fit u v u w)

      pub high_fits : y ≡ at g table n v w → g.size x + g.size y ≤ limit
      high_fits e = rw (here ∙ joint_at ex pair, e ∙ third_high ex pair w lt is) (joints_fit u v v w)

      pub low_doubled : (s : g.Value) → s ≡ g.plus x y → y ≡ at g table n u w → g.size s + g.size s ≤ limit
      low_doubled s sum e =
          let t = third_apart n es u v w (third_is ex pair w lt is) in
          rw (sum, here ∙ joint_at ex pair, e ∙ third_low ex pair w lt is) (two_joints_fit (kind_of g) laws n ls ex.sound es u v w (apart ex pair) t.1 t.2)

      pub high_doubled : (s : g.Value) → s ≡ g.plus x y → y ≡ at g table n v w → g.size s + g.size s ≤ limit
      high_doubled s sum e =
          let t = third_apart n es u v w (third_is ex pair w lt is) in
          let turned = joint_sym (kind_of g) laws n ls ex.sound es u v (apart ex pair) in
          rw (sum, here ∙ joint_at ex pair ∙ turned, e ∙ third_high ex pair w lt is) (two_joints_fit (kind_of g) laws n ls ex.sound es v u w (λ i. apart ex pair (sym i)) t.2 t.1)

    -- the sum of a neighbourhood takes one group more
    pub more_fits : (s x a b : g.Value) → s ≡ gathered (kind_of g) n ls es u v w → a ≡ at g table n u w → b ≡ at g table n v w → x ≡ lesser (kind_of g) a b → g.size s + g.size x ≤ limit
    more_fits s x a b sum p q e = rw (sum, lesser_third ex pair w lt is x a b p q e) (gathered_fits (kind_of g) laws n ls ex.sound es u v w (apart ex pair) (third_is ex pair w lt is))

    -- so the sum with it is formed
    pub gathered_added : (s x a b next : g.Value) → s ≡ gathered (kind_of g) n ls es u v w → a ≡ at g table n u w → b ≡ at g table n v w → x ≡ lesser (kind_of g) a b → (g.size s + g.size x ≤ limit → next ≡ g.plus s x) → next ≡ gathered (kind_of g) n ls es u v (w + 1)
    gathered_added s x a b next sum p q e t = gathered_third ex pair w lt is s x a b next sum p q e (t (more_fits s x a b sum p q e))

    -- and what is tested of it comes out as the plan says
    module _ (d x y s : g.Value) (r : Bool) (here : x ≡ at g table n u v) (sum : g.size x + g.size y ≤ limit → s ≡ g.plus x y) (test : g.size s + g.size s ≤ limit → r ≡ g.le d (g.plus s s)) where
      pub tested_low : d ≡ at g table n u u → y ≡ at g table n u w → by_third (kind_of g) ls es u v u w ≡ r
      tested_low a b =
          let formed = sum (low_fits x y here b) in
          test_low ex pair w lt is d x y s r here formed (test (low_doubled x y here s formed b)) a b

      pub tested_high : d ≡ at g table n v v → y ≡ at g table n v w → by_third (kind_of g) ls es u v v w ≡ r
      tested_high a b =
          let formed = sum (high_fits x y here b) in
          test_high ex pair w lt is d x y s r here formed (test (high_doubled x y here s formed b)) a b
