-- Going through the links of a sheet.
use Rattle.std.proofs.Common.{◌≡◌, ℕ, ◌+◌, ◌≤◌, leb, List, [], ◌∷◌, ◌++◌, length, None, Ok, Err, Result, sym, refl, ap, ◌∙◌, subst, add-zero, add-one, arith}
use Rattle.std.proofs.ByRecursion.{All-append}
use Rattle.refusals.specs.declared.Refusal.TheVariants.{TrailingBytes}
use Rattle.weights.specs.declared.weight.Weight.{Ghosts}
use Rattle.plans.specs.declared.plan.Link.{Link}
use Rattle.plans.specs.Calls.{accepted, check, most_total}
use Rattle.plans.specs.Model.{amount_of}
use Rattle.sheets.specs.declared.fault.Fault.{Fault}
use Rattle.sheets.specs.declared.fault.Part.TheVariants as part
use Rattle.sheets.specs.Fields.{end, through, link_fields, link_place, links_in, total_in}
use Rattle.sheets.specs.Faults.{fault_of, Faultless}
use Rattle.sheets.proofs.Firsts.{clear_more, in_one, in_right}
use Rattle.readers.specs.declared.cursor.Cursor.{Cursor}
use Rattle.readers.specs.Records.{Linked, Reads}
use Rattle.readers.specs.Steps.{Stands, Took}
use Rattle.readers.proofs.Pieces.{at_place}

-- the first k links were gone through
pub record Passing {W : Type 0} (g : Ghosts W) (bs : List ℕ) (k : ℕ) (c : Cursor) (total : ℕ) : Type 0 where
  pub stands : Stands bs (link_place g bs k) c
  pub clear : Faultless g bs (through (link_fields g bs) k)
  pub sum : total ≡ total_in g bs k
  pub limited : total ≤ most_total

module _ {W : Type 0} (g : Ghosts W) (bs : List ℕ) where
  pub passing_more : {k : ℕ} {c a : Cursor} {total amount : ℕ} {l : Link W} → Passing g bs k c total → Reads g bs (link_fields g bs k) (Ok l) a (link_place g bs (k + 1)) (Linked g bs k)
      → amount ≡ amount_of g l.weight → Passing g bs (k + 1) a (total + amount)
  passing_more {k} {c} {a} {total} {amount} {l} was t e =
      let told = t.taken.1 in
      let sum : total + amount ≡ total_in g bs k + amount_of g l.weight = let s = was.sum in omega arith in
      record {
        stands = t.moved;
        clear = clear_more g bs (link_fields g bs) k was.clear t.taken.0;
        sum = sum ∙ (ap (λ n. total_in g bs k + n) told.amount ∙ sym (ap (total_in g bs) (add-one k)));
        limited = let h = told.limited in omega arith;
      }

  -- after the last link
  pub ended : {c a : Cursor} {r : Result (Unit {0}) Fault} {total : ℕ} → Passing g bs (links_in bs) c total
      → Took c part.End 0 (check (leb (length c.bytes.now) c.at) TrailingBytes accepted) r a (λ _. c.at ≡ length c.bytes.now)
      → Reads g bs (through (link_fields g bs) (links_in bs) ++ (end ∷ [])) r a (length bs) (λ _. link_place g bs (links_in bs) ≡ length bs)
  unfolding fault_of
  ended {c = c} {a = a} {r = Ok x} was t =
      let p = link_place g bs (links_in bs) in
      let v = at_place (λ y q. check (leb (length y) q) TrailingBytes accepted) (λ y q _. q ≡ length y) part.End 0 (Ok x) c a bs p part.End was.stands refl t in
      record {
        taken = (All-append (λ f. fault_of g bs f ≡ None) (through (link_fields g bs) (links_in bs)) (end ∷ []) was.clear (v.0.0, tt), v.0.1);
        moved = subst (λ n. Stands bs n a) (add-zero p ∙ v.0.1) v.1;
      }
  ended {c = c} {a = a} {r = Err e} was t =
      let p = link_place g bs (links_in bs) in
      let v = at_place (λ y q. check (leb (length y) q) TrailingBytes accepted) (λ y q _. q ≡ length y) part.End 0 (Err e) c a bs p part.End was.stands refl t in
      record {
        taken = in_right g bs (through (link_fields g bs) (links_in bs)) (end ∷ []) e was.clear (in_one g bs end e v.0);
        moved = tt;
      }
