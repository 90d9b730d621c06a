use Rattle.std.proofs.Common.{◌≡◌, ◌∙◌, ap}
use Rattle.std.specs.String.{string_bytes}
use Rattle.refusals.specs.Numbers.{number_of}
use Rattle.sheets.proofs.Firsts.{one_fault_lem}
use Rattle.sheets.specs.Fields.{fields}
use Rattle.reports.specs.Lines.{line, TellsFault}
use Rattle.reports.proofs.Told.{told_anew, told_of_all, told_of_right}
use Rattle.reports.proofs.report.report_as.Goals as goal

pub returns-in-Err : goal.returns-in-Err
returns-in-Err g c =
    let bs = c.args.bytes.now in
    told_anew (λ text. string_bytes text ≡ line (number_of c.in-Err.fault.refusal)) (λ text. TellsFault g.W.Weight bs (string_bytes text)) _ c.refused.ensures (λ text p e first. p ∙ ap (λ f. line (number_of f.refusal)) (one_fault_lem g.W.Weight bs (fields g.W.Weight bs) c.in-Err.fault e c.in-Err.ensures.fault.0 first))

pub returns-in-Err-weakest : goal.returns-in-Err-weakest
returns-in-Err-weakest g c =
    let met = g.met.W.Weight in
    let sheet = c.in_default.ensures.sheet in
    told_of_all (λ text. TellsFault g.W.Weight c.args.bytes.now (string_bytes text)) _ (λ text. told_of_right g.W.Weight met.exact met.bounded met.narrow _ (string_bytes text) _ _ sheet.0 sheet.1)

pub returns : goal.returns
returns g c =
    let met = g.met.W.Weight in
    let sheet = c.in_default.ensures.sheet in
    told_of_all (λ text. TellsFault g.W.Weight c.args.bytes.now (string_bytes text)) _ (λ text. told_of_right g.W.Weight met.exact met.bounded met.narrow _ (string_bytes text) _ _ sheet.0 sheet.1)
