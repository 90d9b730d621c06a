use Rattle.std.proofs.Common.{◌≡◌, ℕ, ◌+◌, ◌*◌, ◌<◌, [], length, take, ◌∙◌, arith, length-take}
use Rattle.std.proofs.lemmas.Nat.{mul-add-lt}
use Rattle.cuts.specs.Links.{sum}
use Rattle.cuts.proofs.Names.{stands_less}
use Rattle.tables.proofs.Cells.{value_append}
use Rattle.tables.proofs.table.Table.clear.Goals as goal

pub returns-clause-nothing : goal.returns-clause-nothing
returns-clause-nothing g c = λ i lt.
    let size : length (take (c.args.self.now.units * c.args.self.now.units) c.args.self.now.weights.now) ≡ c.args.self.now.units * c.args.self.now.units = grind (arith, length-take) in
    let same = c.blank.ensures.length in
    value_append g.W.Weight c.blank.new.entries _ i (omega (arith, size, same)) ∙ c.blank.ensures.nothing i (omega (arith, size))

pub returns-clause-holds : goal.returns-clause-holds
unfolding sum
returns-clause-holds g c =
    let n = c.args.self.now.units in
    let gone = returns-clause-nothing g c in
    let cell : (u v : ℕ) → u < n → v < n → u * n + v < c.args.self.now.units * c.args.self.now.units = λ u v a b. let h = mul-add-lt u n v n a b in omega arith in
    record { joints = λ u v su sv apart. gone _ (cell u v (stands_less n [] u su) (stands_less n [] v sv)); degrees = λ u su. gone _ (cell u u (stands_less n [] u su) (stands_less n [] u su)) }
