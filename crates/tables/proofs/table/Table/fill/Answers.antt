use Rattle.std.proofs.Common.{◌≡◌, ◌*◌, [], drop, sym, refl, ap, ◌∙◌, subst, subst₂}
use Rattle.tables.specs.Meaning.{Holds}
use Rattle.tables.specs.Sums.{Filled, FitsFilling}
use Rattle.tables.proofs.Fillings.{entry_fits, joint_fits, degree_fits, linked, filled, filled_holds, filled_rest}
use Rattle.tables.proofs.table.Table.fill.Goals as goal

pub sum_in_filling-joint-requires : goal.sum_in_filling-joint-requires
sum_in_filling-joint-requires g c = λ κs within.
    let W = g.W.Weight in
    (within, subst (λ f. FitsFilling W f (W.value c.entry.result) (W.value c.args.weight)) (sym c.requires.1.1.1) (λ ls h s. rw c.entry.ensures.value (entry_fits W g.met.W.Weight.laws c.args.self.now.weights.now c.args.self.now.units ls _ h s refl c.args.a c.args.b c.requires.1.0 c.requires.1.1.0)))

pub sum_in_filling-degree_a-requires : goal.sum_in_filling-degree_a-requires
sum_in_filling-degree_a-requires g c = λ κs within.
    let W = g.W.Weight in
    (within, subst (λ f. FitsFilling W f (W.value c.entry-2.result) (W.value c.args.weight)) (sym c.requires.1.1.1) (λ ls h s. rw c.entry-2.ensures.value (entry_fits W g.met.W.Weight.laws c.args.self.now.weights.now c.args.self.now.units ls _ h s refl c.args.a c.args.a c.requires.1.0 c.requires.1.0)))

pub sum_in_filling-degree_b-requires : goal.sum_in_filling-degree_b-requires
sum_in_filling-degree_b-requires g c = λ κs within.
    let W = g.W.Weight in
    (within, subst (λ f. FitsFilling W f (W.value c.entry-3.result) (W.value c.args.weight)) (sym c.requires.1.1.1) (λ ls h s. rw c.entry-3.ensures.value (entry_fits W g.met.W.Weight.laws c.args.self.now.weights.now c.args.self.now.units ls _ h s refl c.args.b c.args.b c.requires.1.1.0 c.requires.1.1.0)))

pub returns : goal.returns
returns g c =
    let W = g.W.Weight in
    let laws = g.met.W.Weight.laws in
    let n = c.args.self.now.units in
    let a = c.args.a in
    let b = c.args.b in
    let table = c.args.self.now.weights.now in
    let la = c.requires.1.0 in
    let lb = c.requires.1.1.0 in
    let first = c.set_joint.ensures.memory in
    let second = c.set_entry.ensures.memory in
    let third = c.set_entry-2.ensures.memory in
    let units = third.0 ∙ second.0 ∙ first.0 in
    let at_a = first.0 in
    let at_b = second.0 ∙ first.0 in
    let joint = c.entry.ensures.value in
    let own_a = c.entry-2.ensures.value in
    let own_b = c.entry-3.ensures.value in
    let end : c.set_entry-2.new.self.weights.now ≡ filled table n a b c.sum_in_filling-joint.result c.sum_in_filling-degree_a.result c.sum_in_filling-degree_b.result = cc in
    record {
      memory = (units, third.1 ∙ second.1 ∙ first.1);
      holds = λ apart. subst (λ f. Filled W f c.set_entry-2.new.self) (sym c.requires.1.1.1)
          (λ ls h s.
          let degree = degree_fits W laws table n a b c.args.weight la lb ls h s in
          subst₂ (λ m t. Holds W m (linked ls a b (W.value c.args.weight)) [] t) (sym units) (sym end)
          (filled_holds W laws table n _ _ c.args.weight _ _ _ apart la lb c.args.self.now.room ls h s
          (rw joint at c.sum_in_filling-joint.ensures (joint_fits W laws table n a b c.args.weight la lb ls h s apart))
          (rw own_a at c.sum_in_filling-degree_a.ensures (degree a la))
          (rw own_b at c.sum_in_filling-degree_b.ensures (degree b lb))));
      rest = ap (drop (n * n)) end ∙ filled_rest W table n _ _ _ _ _ la lb;
    }
