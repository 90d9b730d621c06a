-- How many units and links the model has, what the plan counts without one of its links, and the verdicts of the calls that name links.
use Rattle.std.proofs.Common.{◌≡◌, ℕ, ◌+◌, ◌<◌, ◌≤◌, true, not, ◌&&◌, ltb, leb, length, get_or, Some, sym, ap, ◌∙◌, arith}
use Rattle.std.specs.List.{remove}
use Rattle.std.proofs.lemmas.List.{length-take-le, get_or-take}
use Rattle.std.proofs.lemmas.Bool.{lt-ltb, le-ltb, le-leb, lt-leb, eq-eqb, ne_eqb, and_from, and_left, and_right}
use Rattle.refusals.specs.declared.Refusal.TheVariants.{NoSuchUnit, SelfLink, NoWeight, Full, OverLimit, NoSuchLink}
use Rattle.weights.specs.declared.weight.Weight.{Ghosts}
use Rattle.plans.specs.declared.plan.Link.{Link}
use Rattle.plans.specs.declared.plan.Plan.{Plan}
use Rattle.plans.specs.Calls.{accepted, check, link_verdict, reweigh_verdict}
use Rattle.plans.specs.Model.{model_of, amount_of, total_of}
use Rattle.plans.proofs.Bearing.{length_codes}
use Rattle.plans.proofs.Totals.{total_removed}
use Rattle.plans.proofs.Verdicts.{fails, passes}

module _ {W : Type 0} {g : Ghosts W} (p : Plan W g) where
  pub unit_size : length (model_of p).codes ≡ p.unit_count
  unit_size = length_codes p.unit_count p.units (let t = p.sound.table in let f = p.sound.few in omega arith)

  pub link_size_lem : length (model_of p).links ≡ p.link_count
  link_size_lem = length-take-le p.link_count p.links.now (let m = p.sound.memory in let h = p.sound.short in omega arith)

  -- what the plan counts without one of its links
  pub others : (k : ℕ) (d : Link W) → k < p.link_count → d ≡ get_or p.links.now k d → total_of g (remove (model_of p).links k) + amount_of g d.weight ≡ p.total
  others k d h is =
      let e = total_removed g (model_of p).links k d (rw link_size_lem h) in
      let at : get_or (model_of p).links k d ≡ d = get_or-take p.link_count p.links.now k d h ∙ sym is in
      sym (ap (λ l. total_of g (remove (model_of p).links k) + amount_of g l.weight) at) ∙ (e ∙ sym p.sound.counted)

  module _ (a b : ℕ) (w : W) where
    pub no_first : p.unit_count ≤ a → link_verdict (model_of p) g a b w ≡ Some NoSuchUnit
    no_first h = fails NoSuchUnit _ (and_left _ _ (le-ltb a (length (model_of p).codes) (rw unit_size h)))

    pub no_second : p.unit_count ≤ b → link_verdict (model_of p) g a b w ≡ Some NoSuchUnit
    no_second h = fails NoSuchUnit _ (and_right _ _ (le-ltb b (length (model_of p).codes) (rw unit_size h)))

    module _ (la : a < p.unit_count) (lb : b < p.unit_count) where
      ends : (ltb a (length (model_of p).codes) && ltb b (length (model_of p).codes)) ≡ true
      ends = and_from _ _ (lt-ltb a (length (model_of p).codes) (rw unit_size la)) (lt-ltb b (length (model_of p).codes) (rw unit_size lb))

      pub self_link : a ≡ b → link_verdict (model_of p) g a b w ≡ Some SelfLink
      self_link e = passes NoSuchUnit _ ends ∙ fails SelfLink _ (ap not (eq-eqb a b e))

      module _ (ab : a ≡ b → ⊥) where
        pub no_weight : amount_of g w ≡ 0 → link_verdict (model_of p) g a b w ≡ Some NoWeight
        no_weight e = passes NoSuchUnit _ ends ∙ (passes SelfLink _ (ap not (ne_eqb a b ab)) ∙ fails NoWeight _ (ap not (eq-eqb (amount_of g w) 0 e)))

        module _ (some : amount_of g w ≡ 0 → ⊥) where
          pub full : 512 ≤ p.link_count → link_verdict (model_of p) g a b w ≡ Some Full
          full h = passes NoSuchUnit _ ends ∙ (passes SelfLink _ (ap not (ne_eqb a b ab)) ∙ (passes NoWeight _ (ap not (ne_eqb (amount_of g w) 0 some))
              ∙ fails Full _ (le-ltb (length (model_of p).links) 512 (rw link_size_lem h))))

          module _ (room : p.link_count < 512) where
            before_total : link_verdict (model_of p) g a b w ≡ check (leb (total_of g (model_of p).links + amount_of g w) 1000000) OverLimit accepted
            before_total = passes NoSuchUnit _ ends ∙ (passes SelfLink _ (ap not (ne_eqb a b ab)) ∙ (passes NoWeight _ (ap not (ne_eqb (amount_of g w) 0 some))
                ∙ passes Full _ (lt-ltb (length (model_of p).links) 512 (rw link_size_lem room))))

            pub over : 1000000 < p.total + amount_of g w → link_verdict (model_of p) g a b w ≡ Some OverLimit
            over h = before_total ∙ fails OverLimit _ (lt-leb (total_of g (model_of p).links + amount_of g w) 1000000 (rw (sym p.sound.counted) h))

            pub link_fine : p.total + amount_of g w ≤ 1000000 → link_verdict (model_of p) g a b w ≡ accepted
            link_fine h = before_total ∙ passes OverLimit _ (le-leb (total_of g (model_of p).links + amount_of g w) 1000000 (rw (sym p.sound.counted) h))

  module _ (k : ℕ) (h : k < p.link_count) where
    pub there : ltb k (length (model_of p).links) ≡ true
    there = lt-ltb k (length (model_of p).links) (rw link_size_lem h)

    module _ (w : W) (some : amount_of g w ≡ 0 → ⊥) where
      pub re_over : 1000000 < total_of g (remove (model_of p).links k) + amount_of g w → reweigh_verdict (model_of p) g k w ≡ Some OverLimit
      re_over o = passes NoSuchLink _ there ∙ (passes NoWeight _ (ap not (ne_eqb (amount_of g w) 0 some)) ∙ fails OverLimit _ (lt-leb _ 1000000 o))

      pub re_fine : total_of g (remove (model_of p).links k) + amount_of g w ≤ 1000000 → reweigh_verdict (model_of p) g k w ≡ accepted
      re_fine o = passes NoSuchLink _ there ∙ (passes NoWeight _ (ap not (ne_eqb (amount_of g w) 0 some)) ∙ passes OverLimit _ (le-leb _ 1000000 o))
