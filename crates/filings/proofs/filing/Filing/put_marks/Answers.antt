use Rattle.std.proofs.Common.{sym, subst}
use Rattle.filings.specs.Filed.{Marks}
use Rattle.filings.proofs.Keeping.{untouched_model}
use Rattle.filings.proofs.filing.Filing.put_marks.Goals as goal

pub returns-clause-filed : goal.returns-clause-filed
returns-clause-filed g c filed =
    let f = c.args.self.now in
    let same = untouched_model f.plan c.put_marks.new.self (c.put_marks.ensures.same c.requires.shows) in
    record {
      sides = filed.sides;
      current = λ kept. subst (λ m. Marks g.W.Weight m f.kept.sides) (sym same) (filed.current kept);
    }
