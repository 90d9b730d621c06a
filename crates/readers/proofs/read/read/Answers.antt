use Rattle.std.proofs.Common.{◌≡◌, ◌≤◌, [], ◌∷◌, map, length, take, sym, ap, ◌∙◌, subst, ap₂}
use Rattle.std.specs.List.{AllByRecursion}
use Rattle.plans.specs.Model.{code_of, model_of}
use Rattle.sheets.specs.Fields.{end, issue_in, link_fields, links_in, texts_in, through, units_in}
use Rattle.sheets.specs.Format.{size_of_code, bytes_of_head}
use Rattle.sheets.proofs.Within.{within}
use Rattle.readers.proofs.Assembly.{apart, assembled, length_texts, texts_fit}
use Rattle.readers.proofs.Filling.{left_clear}
use Rattle.readers.proofs.Whole.{head_fault, code_fault, link_fault, all_right, refuses, accepts}
use Rattle.readers.proofs.read.read.Goals as goal

pub returns-in_err-head : goal.returns-in_err-head
returns-in_err-head g c =
    let w = g.W.Weight in
    let met = g.met.W.Weight in
    let bs = c.args.bytes.now in
    let h = rw c.new-cursor.ensures.bytes at (c.in_err-head.ensures.reads c.new-cursor.ensures.at) in
    let d = c.in_err-head.field-0.0 in
    refuses w bs met.exact met.bounded met.narrow met.told c.from_residual.ensures.1 (head_fault w bs d h.taken)

pub returns-in_err-read_codes : goal.returns-in_err-read_codes
returns-in_err-read_codes g c =
    let w = g.W.Weight in
    let met = g.met.W.Weight in
    let bs = c.args.bytes.now in
    let h = rw c.new-cursor.ensures.bytes at (c.in_ok-head.ensures.reads c.new-cursor.ensures.at) in
    let u = rw h.moved.bytes at c.in_err-read_codes.ensures in
    let d = c.in_err-read_codes.field-0.0 in
    refuses w bs met.exact met.bounded met.narrow met.told c.from_residual-in_err-read_codes.ensures.1 (code_fault w bs d h.taken.0 u.taken)

pub returns-in_err-check_links : goal.returns-in_err-check_links
returns-in_err-check_links g c =
    let w = g.W.Weight in
    let met = g.met.W.Weight in
    let bs = c.args.bytes.now in
    let h = rw c.new-cursor.ensures.bytes at (c.in_ok-head.ensures.reads c.new-cursor.ensures.at) in
    let u = rw h.moved.bytes at c.in_ok-read_codes.ensures in
    let v = rw u.moved.bytes at c.in_err-check_links.ensures in
    let d = c.in_err-check_links.field-0.0 in
    refuses w bs met.exact met.bounded met.narrow met.told c.from_residual-in_err-check_links.ensures.1 (link_fault w bs d h.taken.0 u.taken.0 v.taken)

pub load_units-requires-clause-apart : goal.load_units-requires-clause-apart
load_units-requires-clause-apart g c =
    let bs = c.args.bytes.now in
    let h = rw c.new-cursor.ensures.bytes at (c.in_ok-head.ensures.reads c.new-cursor.ensures.at) in
    let u = rw h.moved.bytes at c.in_ok-read_codes.ensures in
    let us = c.read_codes.new.units in
    apart g.W.Weight bs (units_in bs) (map code_of (take c.in_ok-head.head.units us)) (ap (λ k. map code_of (take k us)) h.taken.1.units ∙ u.taken.1) u.taken.0

pub load_links-requires-clause-clear : goal.load_links-requires-clause-clear
load_links-requires-clause-clear g c =
    let w = g.W.Weight in
    let bs = c.args.bytes.now in
    let h = rw c.new-cursor.ensures.bytes at (c.in_ok-head.ensures.reads c.new-cursor.ensures.at) in
    let u = rw h.moved.bytes at c.in_ok-read_codes.ensures in
    let v = rw u.moved.bytes at c.in_ok-check_links.ensures in
    rw u.moved.bytes (left_clear w bs (through (link_fields w bs) (links_in bs)) (end ∷ []) v.taken.0)

pub load_links-requires-clause-codes : goal.load_links-requires-clause-codes
load_links-requires-clause-codes g c =
    let bs = c.args.bytes.now in
    let h = rw c.new-cursor.ensures.bytes at (c.in_ok-head.ensures.reads c.new-cursor.ensures.at) in
    let u = rw h.moved.bytes at c.in_ok-read_codes.ensures in
    let texts = ap (λ k. map code_of (take k c.read_codes.new.units)) h.taken.1.units ∙ u.taken.1 in
    rw u.moved.bytes (ap (λ m. length m.codes) c.load_units.ensures ∙ (ap length texts ∙ length_texts bs (units_in bs)))

pub returns : goal.returns
returns g c =
    let w = g.W.Weight in
    let met = g.met.W.Weight in
    let bs = c.args.bytes.now in
    let h = rw c.new-cursor.ensures.bytes at (c.in_ok-head.ensures.reads c.new-cursor.ensures.at) in
    let u = rw h.moved.bytes at c.in_ok-read_codes.ensures in
    let v = rw u.moved.bytes at c.in_ok-check_links.ensures in
    let loaded = rw u.moved.bytes at c.load_links.ensures in
    let told = h.taken.1 in
    let us = c.read_codes.new.units in
    let p = c.load_links.new.plan in
    let before = model_of c.load_units.new.plan in
    let codes : before.codes ≡ texts_in bs (units_in bs) = ap (λ m. m.codes) c.load_units.ensures ∙ (ap (λ k. map code_of (take k us)) told.units ∙ u.taken.1) in
    let head = told.bytes ∙ (ap (λ x. bytes_of_head w x c.in_ok-head.head.units c.in_ok-head.head.links) told.issue ∙ ap₂ (bytes_of_head w (issue_in bs)) told.units told.links) in
    let fit = subst (λ ts. AllByRecursion (λ text. length text ≤ size_of_code (issue_in bs)) ts) (sym (loaded.codes ∙ codes)) (texts_fit bs (units_in bs)) in
    accepts w bs met.exact met.bounded met.narrow met.told c.args.plan.now p
    (all_right w bs h.taken.0 u.taken.0 v.taken.0)
    (within p (issue_in bs) fit)
    (assembled w bs before (model_of p) (sym v.taken.1) head u.taken.0 codes loaded)
