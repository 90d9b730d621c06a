-- The whole sheet: head, codes, links and end.
use Rattle.std.proofs.Common.{◌≡◌, ℕ, ◌^◌, ◌<◌, ◌≤◌, List, [], ◌∷◌, ◌++◌, None, Ok, Err, Result, sym, refl, ◌∙◌, subst}
use Rattle.std.specs.Result.{IsErrAnd}
use Rattle.std.proofs.ByRecursion.{All-append}
use Rattle.weights.specs.declared.weight.Weight.{Ghosts}
use Rattle.weights.specs.Laws.{Exact, limit}
use Rattle.plans.specs.declared.plan.Plan.{Plan}
use Rattle.plans.specs.Model.{model_of}
use Rattle.sheets.specs.declared.fault.Fault.{Fault}
use Rattle.sheets.specs.Fields.{Field, fields, end, through, head_fields, code_fields, issue_in, link_fields, units_in, links_in}
use Rattle.sheets.specs.Faults.{fault_of, Faultless, FirstIn, FirstFault, Right}
use Rattle.sheets.specs.Format.{Valid, sheet_of}
use Rattle.sheets.proofs.Firsts.{in_left, in_right, no_fault_lem}
use Rattle.sheets.proofs.Rightly.{sheet_right}
use Rattle.sheets.proofs.Singled.{sheet_told}
use Rattle.readers.specs.Outcome.{Outcome}

module _ {W : Type 0} (g : Ghosts W) (bs : List ℕ) where
  abbrev links : List Field
  links = through (link_fields g bs) (links_in bs) ++ (end ∷ [])

  abbrev rest : List Field
  rest = code_fields (units_in bs) ++ links

  pub head_fault : (e : Fault) → FirstIn g bs head_fields e → FirstFault g bs e
  unfolding fields
  head_fault e h = in_left g bs head_fields rest e h

  pub code_fault : (e : Fault) → Faultless g bs head_fields → FirstIn g bs (code_fields (units_in bs)) e → FirstFault g bs e
  unfolding fields
  code_fault e a h = in_right g bs head_fields rest e a (in_left g bs (code_fields (units_in bs)) links e h)

  pub link_fault : (e : Fault) → Faultless g bs head_fields → Faultless g bs (code_fields (units_in bs))
      → FirstIn g bs (through (link_fields g bs) (links_in bs) ++ (end ∷ [])) e → FirstFault g bs e
  unfolding fields
  link_fault e a b h = in_right g bs head_fields rest e a (in_right g bs (code_fields (units_in bs)) links e b h)

  pub all_right : Faultless g bs head_fields → Faultless g bs (code_fields (units_in bs)) → Faultless g bs (through (link_fields g bs) (links_in bs) ++ (end ∷ [])) → Right g bs
  unfolding fields
  all_right a b c =
      let P : Field → Type 0 = λ f. fault_of g bs f ≡ None in
      All-append P head_fields rest a (All-append P (code_fields (units_in bs)) links b c)

-- the two outcomes of reading
module _ {W : Type 0} (g : Ghosts W) (bs : List ℕ) (exact : Exact g.PARTS g.of g.nth) (bounded : (x : W) → g.size (g.value x) ≤ limit) (narrow : (x : W) (j : ℕ) → g.nth (g.value x) j < 2 ^ 32) (told : (x y : W) → g.value x ≡ g.value y → x ≡ y) where
  pub refuses : {p : Plan W g} {r : Result (Unit {0}) Fault} {e : Fault} → IsErrAnd r (λ d. d ≡ e) → FirstFault g bs e → Outcome g bs p r p
  refuses {r = Ok x} is h = absurd is
  refuses {r = Err d} is h =
      let first = subst (FirstFault g bs) (sym is) h in
      record {
        fault = (first, refl);
        sheet = tt;
        back = λ issue m v s. absurd (no_fault_lem g bs (fields g bs) d (subst (Right g) (sym s) (sheet_right g exact bounded narrow issue m v)) first);
      }

  pub accepts : (p q : Plan W g) → Right g bs → Valid g (issue_in bs) (model_of q) → bs ≡ sheet_of g (issue_in bs) (model_of q) → Outcome g bs p (Ok tt) q
  accepts p q right valid is = record {
    fault = tt;
    sheet = (right, valid, is);
    back = λ issue m v s. (refl, (sheet_told g exact narrow told (issue_in bs) issue (model_of q) m valid v (sym is ∙ s)).1);
  }
