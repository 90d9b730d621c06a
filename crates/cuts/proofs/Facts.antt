-- What the steps of the work come to, one by one: keys, joint weights and degrees, before and after a merger.
use Rattle.std.proofs.Common.{◌≡◌, ℕ, ◌+◌, ◌≤◌, Bool, true, false, cond, ◌&&◌, List, [], ◌∷◌, sym, refl, ◌∙◌, ap₂, arith}
use Rattle.std.proofs.lemmas.Bool.Decides.{nat_tests}
use Rattle.weights.specs.Laws.{limit}
use Rattle.cuts.specs.declared.entry.Entry.{Entry}
use Rattle.cuts.specs.Kinds.{Kind, Lawful}
use Rattle.cuts.specs.Links.{Link, sum, load, total, Ends, Sound}
use Rattle.cuts.specs.Divisions.{only}
use Rattle.cuts.specs.Groups.{stands, degree, joint}
use Rattle.cuts.specs.Scans.{has, key}
use Rattle.cuts.proofs.Rules.{cuts, into}
use Rattle.cuts.proofs.Sums.{weigh_none, weigh_add, weigh_same, weigh_over}
use Rattle.cuts.proofs.Points.{two_into}
use Rattle.cuts.proofs.Moves.{tie_sym}
use Rattle.cuts.proofs.Served.{links_at, light_at, degree_deg, joint_tie, key_pull}
use Rattle.cuts.proofs.Names.{Named}
use Rattle.cuts.proofs.Grounds.{over_at}

-- links in service weigh no more than all links
pub load_total : {V : Type 0} (K : Kind V) (ls : List (Link V)) → load K ls ≤ total K ls
unfolding load total
load_total K [] = omega arith
load_total K (l ∷ ls) = go l.in_service (load_total K ls)
  where
    go : (b : Bool) → load K ls ≤ total K ls → cond b (K.amount l.weight) 0 + load K ls ≤ K.amount l.weight + total K ls
    go true h = omega arith
    go false h = omega arith

-- a plan within its limit on amounts is sound, whichever of its links are in service
pub sound_within : {V : Type 0} (K : Kind V) (n : ℕ) (ls : List (Link V)) → Ends n ls → total K ls + total K ls ≤ limit → Sound K n ls
sound_within K n ls ends h = record { ends = ends; light = omega (arith, load_total K ls) }

-- no sum over links in service comes to more than all of them
pub sum_amount : {V : Type 0} (K : Kind V) → Lawful K → (test : ℕ → ℕ → Bool) (ls : List (Link V)) → load K ls ≤ limit → K.amount (sum K test ls) ≤ load K ls
unfolding sum load
sum_amount K laws test [] light = omega (arith, laws.none)
sum_amount K laws test (l ∷ ls) light = go l.in_service (test l.first l.second) light (sum_amount K laws test ls)
  where
    go : (b t : Bool) → cond b (K.amount l.weight) 0 + load K ls ≤ limit → (load K ls ≤ limit → K.amount (sum K test ls) ≤ load K ls)
        → K.amount (cond (b && t) (K.plus l.weight (sum K test ls)) (sum K test ls)) ≤ cond b (K.amount l.weight) 0 + load K ls
    go true true fit ih = let h = ih (omega arith) in omega (arith, laws.amounts l.weight (sum K test ls) (omega arith))
    go true false fit ih = let h = ih (omega arith) in omega arith
    go false t fit ih = let h = ih (omega arith) in omega arith

-- two of them can be added up
pub sums_fit : {V : Type 0} (K : Kind V) → Lawful K → (n : ℕ) (ls : List (Link V)) → Sound K n ls → (f g : ℕ → ℕ → Bool) → K.amount (sum K f ls) + K.amount (sum K g ls) ≤ limit
sums_fit K laws n ls sound f g =
    let light = sound.light in
    let a = sum_amount K laws f ls (omega arith) in
    let b = sum_amount K laws g ls (omega arith) in
    omega arith

module _ {V : Type 0} (K : Kind V) (laws : Lawful K) (n : ℕ) (ls : List (Link V)) (sound : Sound K n ls) where
  pub joint_sym : (es : List Entry) (u v : ℕ) → (u ≡ v → ⊥) → joint K ls es u v ≡ joint K ls es v u
  joint_sym es u v apart = joint_tie K laws n ls sound es u v apart ∙ tie_sym K (links_at ls es) u v ∙ sym (joint_tie K laws n ls sound es v u (λ e. apart (sym e)))

  -- before any group is taken a key is nothing
  pub key_none : (es : List Entry) (w : ℕ) → key K n ls es [] w ≡ K.nothing
  key_none es w =
      key_pull K laws n ls sound es [] w refl
      ∙ weigh_same K (links_at ls es) (into (has []) w) (λ x y. 0) (λ x y. grind (arith, nat_tests)) ∙ weigh_none K laws (links_at ls es)

  -- one more taken: each key grows by a joint weight
  pub key_more : (es : List Entry) (v : ℕ) (taken : List ℕ) (w : ℕ) → has taken v ≡ false → has (v ∷ taken) w ≡ false → key K n ls es (v ∷ taken) w ≡ K.plus (key K n ls es taken w) (joint K ls es v w)
  key_more es v taken w out waits =
      let apart : v ≡ w → ⊥ = grind (arith, nat_tests) in
      let waited : has taken w ≡ false = grind (arith, nat_tests) in
      let more : (x y : ℕ) → into (has (v ∷ taken)) w x y ≡ into (has taken) w x y + into (only v) w x y = λ x y. grind (arith, nat_tests) in
      key_pull K laws n ls sound es (v ∷ taken) w waits
      ∙ weigh_same K (links_at ls es) _ _ more
      ∙ weigh_add K laws (links_at ls es) (light_at K laws n ls sound es) (into (has taken) w) (into (only v) w) (λ x y. omega (arith, more x y, two_into (has (v ∷ taken)) w x y))
      ∙ ap₂ K.plus (sym (key_pull K laws n ls sound es taken w waited)) (sym (joint_tie K laws n ls sound es v w apart))

  -- the key of the last group taken is its degree
  pub key_degree : (es : List Entry) → Named n es → (taken : List ℕ) (t : ℕ) → has taken t ≡ false → ((w : ℕ) → stands n es w ≡ true → has (t ∷ taken) w ≡ true) → key K n ls es taken t ≡ degree K ls es t
  key_degree es names taken t out complete =
      key_pull K laws n ls sound es taken t out
      ∙ weigh_over K (stands n es) (links_at ls es) (into (has taken) t) (cuts (only t)) (over_at K laws n ls sound es names) (λ x y p q. let a = complete x p in let b = complete y q in grind (arith, nat_tests))
      ∙ sym (degree_deg K laws n ls sound es t)
