use Rattle.std.proofs.Common.{[], ◌∷◌, ◌∙◌}
use Rattle.sheets.specs.Fields.{magic, issue, kind, units, links}
use Rattle.readers.specs.Steps.{Stands}
use Rattle.readers.proofs.Exits.{stopped}
use Rattle.readers.proofs.Heads.{magic_read, issue_read, kind_read, units_read, links_read, head_bytes, whole}
use Rattle.readers.proofs.head.read_head.Goals as goal

pub returns-in_err-read_magic-clause-reads : goal.returns-in_err-read_magic-clause-reads
returns-in_err-read_magic-clause-reads g c = λ at.
    let w = g.W.Weight in
    let bs = c.args.cursor.now.bytes.now in
    let s : Stands bs 0 c.enter.new.self = record { bytes = c.enter.ensures.bytes; place = c.enter.ensures.at ∙ at } in
    let f = magic_read w bs s c.enter.ensures.part c.in_err-read_magic.ensures in
    stopped [] magic (issue ∷ kind ∷ units ∷ links ∷ []) c.from_residual.ensures.1 tt f.0

pub returns-in_err-issue-clause-reads : goal.returns-in_err-issue-clause-reads
returns-in_err-issue-clause-reads g c = λ at.
    let w = g.W.Weight in
    let bs = c.args.cursor.now.bytes.now in
    let s : Stands bs 0 c.enter.new.self = record { bytes = c.enter.ensures.bytes; place = c.enter.ensures.at ∙ at } in
    let t0 = magic_read w bs s c.enter.ensures.part c.in_ok-read_magic.ensures in
    let f = issue_read w bs t0.1 t0.2 c.in_err-issue.ensures in
    stopped (magic ∷ []) issue (kind ∷ units ∷ links ∷ []) c.from_residual-in_err-issue.ensures.1 (t0.0.0, tt) f.0

pub returns-in_err-read_kind-clause-reads : goal.returns-in_err-read_kind-clause-reads
returns-in_err-read_kind-clause-reads g c = λ at.
    let w = g.W.Weight in
    let bs = c.args.cursor.now.bytes.now in
    let s : Stands bs 0 c.enter.new.self = record { bytes = c.enter.ensures.bytes; place = c.enter.ensures.at ∙ at } in
    let t0 = magic_read w bs s c.enter.ensures.part c.in_ok-read_magic.ensures in
    let t1 = issue_read w bs t0.1 t0.2 c.in_ok-issue.ensures in
    let f = kind_read w bs t1.1 t1.2 c.in_err-read_kind.ensures in
    stopped (magic ∷ issue ∷ []) kind (units ∷ links ∷ []) c.from_residual-in_err-read_kind.ensures.1 (t0.0.0, (t1.0.0, tt)) f.0

pub returns-in_err-units-clause-reads : goal.returns-in_err-units-clause-reads
returns-in_err-units-clause-reads g c = λ at.
    let w = g.W.Weight in
    let bs = c.args.cursor.now.bytes.now in
    let s : Stands bs 0 c.enter.new.self = record { bytes = c.enter.ensures.bytes; place = c.enter.ensures.at ∙ at } in
    let t0 = magic_read w bs s c.enter.ensures.part c.in_ok-read_magic.ensures in
    let t1 = issue_read w bs t0.1 t0.2 c.in_ok-issue.ensures in
    let t2 = kind_read w bs t1.1 t1.2 c.in_ok-read_kind.ensures in
    let f = units_read w bs t2.1 t2.2 c.in_err-units.ensures in
    stopped (magic ∷ issue ∷ kind ∷ []) units (links ∷ []) c.from_residual-in_err-units.ensures.1 (t0.0.0, (t1.0.0, (t2.0.0, tt))) f.0

pub returns-in_err-links-clause-reads : goal.returns-in_err-links-clause-reads
returns-in_err-links-clause-reads g c = λ at.
    let w = g.W.Weight in
    let bs = c.args.cursor.now.bytes.now in
    let s : Stands bs 0 c.enter.new.self = record { bytes = c.enter.ensures.bytes; place = c.enter.ensures.at ∙ at } in
    let t0 = magic_read w bs s c.enter.ensures.part c.in_ok-read_magic.ensures in
    let t1 = issue_read w bs t0.1 t0.2 c.in_ok-issue.ensures in
    let t2 = kind_read w bs t1.1 t1.2 c.in_ok-read_kind.ensures in
    let t3 = units_read w bs t2.1 t2.2 c.in_ok-units.ensures in
    let f = links_read w bs t3.1 t3.2 c.in_err-links.ensures in
    stopped (magic ∷ issue ∷ kind ∷ units ∷ []) links [] c.from_residual-in_err-links.ensures.1 (t0.0.0, (t1.0.0, (t2.0.0, (t3.0.0, tt)))) f.0

pub returns-clause-reads : goal.returns-clause-reads
returns-clause-reads g c = λ at.
    let w = g.W.Weight in
    let bs = c.args.cursor.now.bytes.now in
    let s : Stands bs 0 c.enter.new.self = record { bytes = c.enter.ensures.bytes; place = c.enter.ensures.at ∙ at } in
    let t0 = magic_read w bs s c.enter.ensures.part c.in_ok-read_magic.ensures in
    let t1 = issue_read w bs t0.1 t0.2 c.in_ok-issue.ensures in
    let t2 = kind_read w bs t1.1 t1.2 c.in_ok-read_kind.ensures in
    let t3 = units_read w bs t2.1 t2.2 c.in_ok-units.ensures in
    let t4 = links_read w bs t3.1 t3.2 c.in_ok-links.ensures in
    record {
      taken = (
        (t0.0.0, (t1.0.0, (t2.0.0, (t3.0.0, (t4.0.0, tt))))),
        record {
          issue = t1.0.1.0;
          units = t3.0.1.0;
          links = t4.0.1.0;
          few = t3.0.1.1;
          short = t4.0.1.2;
          bytes = head_bytes w bs _ _ _ (whole w bs links t4.0.0) t0.0.1 t1.0.1.1 t2.0.1 t3.0.1.0 t4.0.1.1;
        },
      );
      moved = t4.1;
    }
