use Rattle.std.proofs.Common.{◌≡◌, ◌+◌, ◌*◌, ◌≤◌, ℕ, [], ◌∷◌, length, take, ap, ◌∙◌, arith}
use Rattle.std.proofs.lemmas.List.{length-take-le}
use Rattle.sheets.specs.Fields.{weight, number_fields, number_place}
use Rattle.sheets.proofs.Firsts.{in_left}
use Rattle.readers.proofs.Exits.{broke}
use Rattle.readers.proofs.Weighing.{weight_told}
use Rattle.readers.proofs.parts.read_weight.Goals as goal

-- as many numbers are read as there are parts
counted : (n m : ℕ) → n ≡ m → m ≤ 8 → length {A = ℕ} (take n (0 ∷ 0 ∷ 0 ∷ 0 ∷ 0 ∷ 0 ∷ 0 ∷ 0 ∷ [])) ≡ m
counted n m e few = length-take-le {A = ℕ} n (0 ∷ 0 ∷ 0 ∷ 0 ∷ 0 ∷ 0 ∷ 0 ∷ 0 ∷ []) (omega arith) ∙ e

pub returns-in_err-read_numbers-clause-reads : goal.returns-in_err-read_numbers-clause-reads
returns-in_err-read_numbers-clause-reads g c = λ k w at total.
    let wt = g.W.Weight in
    let bs = c.args.cursor.now.bytes.now in
    let d = c.in_err-read_numbers.field-0.0 in
    let count = counted c.PARTS.result wt.PARTS c.PARTS.ensures g.met.W.Weight.exact.few in
    let n = rw count at (c.in_err-read_numbers.ensures.reads k w at) in
    broke c.from_residual.ensures.1
    (in_left wt bs (number_fields k wt.PARTS) (weight k ∷ []) d n.taken)

pub returns-clause-reads : goal.returns-clause-reads
returns-clause-reads g c = λ k w at total.
    let wt = g.W.Weight in
    let bs = c.args.cursor.now.bytes.now in
    let a = c.read_numbers.new.cursor in
    let parts = c.read_numbers.new.parts in
    let told = c.in_ok-read_numbers.ensures in
    let count = counted c.PARTS.result wt.PARTS c.PARTS.ensures g.met.W.Weight.exact.few in
    let n = rw count at (told.reads k w at) in
    let len : number_place wt bs k 0 + 4 * wt.PARTS ≤ length bs = omega (arith, a.within, n.moved.place, ap length n.moved.bytes) in
    weight_told wt bs k g.met.W.Weight.exact parts n.taken.1 a c.args.total total n.taken.0 n.moved len
    c.place-place.result a.part c.judge.result c.judged.result (c.place-place.ensures ∙ at) (told.part ∙ w) c.judge.ensures c.judged.ensures
