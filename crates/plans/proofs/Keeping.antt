-- A plan keeps what every plan keeps where one link is added, changed or removed, and what it then stands for.
use Rattle.std.proofs.Common.{◌≡◌, ℕ, ◌+◌, ◌-◌, ◌<◌, ◌≤◌, [], ◌∷◌, ◌++◌, List, length, get_or, take, drop, set, sym, ap, ◌∙◌, ap₂, add-one, arith}
use Rattle.std.proofs.Math.Seq.{take-set-lt}
use Rattle.std.specs.List.{remove, AllWithin, CopiedTo, SameBelow}
use Rattle.std.proofs.lemmas.List.Elements.{AllWithin-more_set, AllWithin-set}
use Rattle.std.proofs.lemmas.List.{length-set, take_more_set, get_or-take, take-take}
use Rattle.weights.specs.declared.weight.Weight.{Ghosts}
use Rattle.plans.specs.declared.plan.Link.{Link}
use Rattle.plans.specs.declared.plan.Plan.{Plan}
use Rattle.plans.specs.Model.{model_of, changed}
use Rattle.plans.specs.Sound.{amount_of, total_of, Joins, Sound}
use Rattle.plans.proofs.Linking.{link_size_lem, others}
use Rattle.plans.proofs.Shifts.{front, every_left}
use Rattle.plans.proofs.Totals.{total_append, total_changed, set_changes}

module _ {W : Type 0} {g : Ghosts W} (p : Plan W g) where
  -- what is left to show where only the links change
  pub sound_links : (links : List (Link W)) (count total : ℕ) → count ≤ 512 → 512 ≤ length links → AllWithin (Joins g p.unit_count) links 0 count → total ≡ total_of g (take count links) → total ≤ 1000000
      → Sound g p.units p.unit_count links count total
  sound_links links count total short memory joins counted limited = record {
    few = p.sound.few;
    short = short;
    table = p.sound.table;
    memory = memory;
    distinct = p.sound.distinct;
    joins = joins;
    counted = counted;
    limited = limited;
  }

  module _ (l : Link W) (room : p.link_count < 512) where
    within : p.link_count < length p.links.now
    within = let m = p.sound.memory in omega arith

    pub added : take (p.link_count + 1) (set p.links.now p.link_count l) ≡ (model_of p).links ++ (l ∷ [])
    added = take_more_set p.links.now p.link_count l within

    pub sound_linked : (total : ℕ) → Joins g p.unit_count l → total ≡ p.total + amount_of g l.weight → total ≤ 1000000 → Sound g p.units p.unit_count (set p.links.now p.link_count l) (p.link_count + 1) total
    sound_linked total joins is limited =
        let t = total_append g (model_of p).links (l ∷ []) in
        let k = p.sound.counted in
        sound_links _ _ total (omega arith) (let m = p.sound.memory in rw (length-set p.links.now p.link_count l) m)
        (AllWithin-more_set p.links.now p.link_count l within (Joins g p.unit_count) p.sound.joins joins)
        (is ∙ (let e : p.total + amount_of g l.weight ≡ total_of g ((model_of p).links ++ (l ∷ [])) = omega arith in e ∙ ap (total_of g) (sym added)))
        limited

  module _ (k : ℕ) (f : Link W → Link W) (d : Link W) (in-it : k < p.link_count) where
    at : get_or (model_of p).links k d ≡ get_or p.links.now k d
    at = get_or-take p.link_count p.links.now k d in-it

    pub replaced : take p.link_count (set p.links.now k (f (get_or p.links.now k d))) ≡ changed k f (model_of p).links
    replaced = take-set-lt p.link_count p.links.now k _ in-it ∙ (ap (λ x. set (model_of p).links k (f x)) (sym at) ∙ set_changes (model_of p).links k f d)

    pub sound_changed : (total : ℕ) → Joins g p.unit_count (f (get_or p.links.now k d)) → total ≡ total_of g (remove (model_of p).links k) + amount_of g (f (get_or p.links.now k d)).weight → total ≤ 1000000
        → Sound g p.units p.unit_count (set p.links.now k (f (get_or p.links.now k d))) p.link_count total
    sound_changed total joins is limited =
        let m = p.sound.memory in
        sound_links _ _ total p.sound.short (rw (length-set p.links.now k (f (get_or p.links.now k d))) m)
        (AllWithin-set (Joins g p.unit_count) p.links.now 0 p.link_count k (f (get_or p.links.now k d)) (omega arith) joins p.sound.joins)
        (is ∙ (ap (λ x. total_of g (remove (model_of p).links k) + amount_of g (f x).weight) (sym at) ∙ (sym (total_changed g (model_of p).links k f d (rw (link_size_lem p) in-it)) ∙ ap (total_of g) (sym replaced))))
        limited

  module _ (k : ℕ) (links : List (Link W)) (in-it : k < p.link_count) (same : length links ≡ length p.links.now) (below : SameBelow p.links.now links k) (down : CopiedTo p.links.now links (k + 1) k (p.link_count - (k + 1))) where
    pub taken_out : take (p.link_count - 1) links ≡ remove (model_of p).links k
    taken_out =
        let m = p.sound.memory in
        let h = p.sound.short in
        front p.links.now links k p.link_count below down same in-it (omega arith)
        ∙ ap₂ (λ n xs. xs ++ drop n (model_of p).links) (add-one k) (sym (take-take k p.link_count p.links.now (omega arith)))

    pub sound_struck : (total : ℕ) (d : Link W) → d ≡ get_or p.links.now k d → total + amount_of g d.weight ≡ p.total → Sound g p.units p.unit_count links (p.link_count - 1) total
    sound_struck total d is less =
        let m = p.sound.memory in
        let h = p.sound.short in
        let t = p.sound.limited in
        let e = others p k d in-it is in
        sound_links _ _ total (omega arith) (rw same m)
        (every_left (Joins g p.unit_count) p.links.now links k p.link_count below down p.sound.joins)
        (let z : total ≡ total_of g (remove (model_of p).links k) = omega arith in z ∙ ap (total_of g) (sym taken_out))
        (omega arith)
