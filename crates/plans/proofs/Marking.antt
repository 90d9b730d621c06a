-- Links that get their marks one by one.
use Rattle.std.proofs.Common.{◌≡◌, ℕ, ◌+◌, ◌<◌, ◌≤◌, Bool, true, false, cond, eqb, List, length, get_or, set, sym, refl, ap, ◌∙◌, subst, ap₂, ⊎_elim, arith}
use Rattle.std.proofs.lemmas.List.{get_or-set_same, get_or-set_other, get_or-take, length-set, get_or_default, same_lists}
use Rattle.std.proofs.lemmas.Bool.{cases_eq, cases_lt}
use Rattle.weights.specs.declared.weight.Weight.{Ghosts}
use Rattle.plans.specs.declared.plan.Link.{Link}
use Rattle.plans.specs.declared.plan.Plan.{Plan}
use Rattle.plans.specs.Marks.{mark_of, with_mark, Shows, Untouched, Remarked}
use Rattle.plans.specs.Model.{model_of}
use Rattle.plans.specs.Sound.{Sound}
use Rattle.plans.proofs.Keeping.{sound_changed}
use Rattle.plans.proofs.Linking.{link_size_lem, others}

-- the first i links have their marks from the table, and nothing else is changed
pub record MarkedTo {W : Type 0} {g : Ghosts W} (marks : List ℕ) (before : Plan W g) (i : ℕ) (after : Plan W g) : Type 0 where
  pub marked : (j : ℕ) (d : Link W) → j < i → get_or after.links.now j d ≡ with_mark (get_or before.links.now j d) (eqb (get_or marks j 0) 1)
  pub rest : (j : ℕ) (d : Link W) → i ≤ j → get_or after.links.now j d ≡ get_or before.links.now j d
  pub size : length after.links.now ≡ length before.links.now
  pub units : after.units ≡ before.units
  pub unit_count : after.unit_count ≡ before.unit_count
  pub link_count : after.link_count ≡ before.link_count
  pub total : after.total ≡ before.total

-- a plan keeps what every plan keeps where one link is put in service or out
pub sound_marked : {W : Type 0} {g : Ghosts W} (p : Plan W g) (k : ℕ) (b : Bool) (d : Link W) → k < p.link_count
    → Sound g p.units p.unit_count (set p.links.now k (with_mark (get_or p.links.now k d) b)) p.link_count p.total
sound_marked {g = g} p k b d h =
    let joins = p.sound.joins k d (omega arith) h in
    let e = others p k _ h (get_or_default p.links.now k d _ (let m = p.sound.memory in let n = p.sound.short in omega arith)) in
    sound_changed p k (λ l. with_mark l b) d h p.total
    (record { first = joins.first; second = joins.second; apart = joins.apart; weighty = joins.weighty })
    (sym e)
    (let l = p.sound.limited in omega arith)

module _ {W : Type 0} {g : Ghosts W} (marks : List ℕ) (before : Plan W g) where
  pub marked_none : MarkedTo marks before 0 before
  marked_none = record { marked = λ j d lt. absurd (omega arith); rest = λ j d le. refl; size = refl; units = refl; unit_count = refl; link_count = refl; total = refl }

  -- one link more
  pub marked_more : (i : ℕ) (b : Bool) (p q : Plan W g) (e : Link W) → MarkedTo marks before i p → i < length p.links.now → b ≡ eqb (get_or marks i 0) 1
      → q.links.now ≡ set p.links.now i (with_mark (get_or p.links.now i e) b)
      → q.units ≡ p.units → q.unit_count ≡ p.unit_count → q.link_count ≡ p.link_count → q.total ≡ p.total → MarkedTo marks before (i + 1) q
  marked_more i b p q e m room mark is units unit_count link_count total = record {
    marked = λ j d lt. ⊎_elim
        (λ (here : j ≡ i). subst (λ k. get_or q.links.now k d ≡ with_mark (get_or before.links.now k d) (eqb (get_or marks k 0) 1)) (sym here)
        (ap (λ ls. get_or ls i d) is ∙ get_or-set_same _ i _ d room ∙ ap₂ with_mark (get_or_default p.links.now i e d room ∙ m.rest i d (omega arith)) mark))
        (λ (ne : j ≡ i → ⊥). let l : j < i = omega (arith, ne) in ap (λ ls. get_or ls j d) is ∙ get_or-set_other _ i j _ d ne ∙ m.marked j d l)
        (cases_eq j i);
    rest = λ j d le. ap (λ ls. get_or ls j d) is ∙ get_or-set_other _ i j _ d (λ e. omega arith) ∙ m.rest j d (omega arith);
    size = ap length is ∙ length-set _ i _ ∙ m.size;
    units = units ∙ m.units;
    unit_count = unit_count ∙ m.unit_count;
    link_count = link_count ∙ m.link_count;
    total = total ∙ m.total;
  }

  pub marked_all : (p : Plan W g) → MarkedTo marks before before.link_count p → Remarked marks before p
  marked_all p m = record { marked = m.marked; rest = m.rest; size = m.size; units = m.units; unit_count = m.unit_count; link_count = m.link_count; total = m.total }

one_mark : (b : Bool) → eqb (cond b 1 0) 1 ≡ b
one_mark true = refl
one_mark false = refl

-- marks that the links have already change nothing
pub remarked_same : {W : Type 0} {g : Ghosts W} (marks : List ℕ) (before after : Plan W g) → Shows marks (model_of before).links → Remarked marks before after → Untouched before after
remarked_same {W} marks before after shows r = record {
  units = r.units;
  unit_count = r.unit_count;
  memory = same_lists after.links.now before.links.now r.size
      (λ j d lt. ⊎_elim
      (λ (l : j < before.link_count). r.marked j d l ∙ ap (with_mark (get_or before.links.now j d)) (ap (λ b. eqb b 1) (own j d l) ∙ one_mark _))
      (λ (le : before.link_count ≤ j). r.rest j d le)
      (cases_lt j before.link_count));
  link_count = r.link_count;
  total = r.total;
}
  where
    own : (j : ℕ) (d : Link W) → j < before.link_count → get_or marks j 0 ≡ mark_of (get_or before.links.now j d)
    own j d l = shows j d (rw (link_size_lem before) l) ∙ ap mark_of (get_or-take before.link_count before.links.now j d l)
