use Rattle.std.proofs.Common.{sym}
use Rattle.std.proofs.lemmas.List.{length-take-le}
use Rattle.plans.specs.Model.{model_of}
use Rattle.plans.proofs.Linking.{unit_size}
use Rattle.filings.proofs.Keeping.{marks_below}
use Rattle.filings.proofs.Staying.{fair_plan}
use Rattle.filings.proofs.filing.Filing.keep.Goals as goal

pub returns-clause-filed : goal.returns-clause-filed
returns-clause-filed g c =
    let p = c.args.self.now.plan in
    let front = rw (c.unit_count-n.ensures.value, length-take-le p.unit_count c.args.marks.now c.requires.size) at c.keep.ensures.sides in
    record {
      sides = c.keep.ensures.size;
      current = λ flag. marks_below g.W.Weight g.met.W.Weight.laws (model_of p) (fair_plan p) c.args.marks.now c.keep.new.self.sides (rw (unit_size p) (sym front)) c.requires.marks;
    }
