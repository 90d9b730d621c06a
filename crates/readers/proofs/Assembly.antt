-- A sheet without faults is the sheet of the plan that is made from it.
use Rattle.std.proofs.Common.{◌≡◌, ℕ, zero, suc, ◌+◌, ◌*◌, ◌<◌, ◌≤◌, Bool, true, false, cond, eqb, List, [], ◌∷◌, ◌++◌, length, get_or, take, drop, Some, None, Option, sym, refl, ap, ◌∙◌, subst, ap₂, ⊎_elim, suc-mul, zero-mul, add-one, arith}
use Rattle.std.specs.List.{flat_map, AllByRecursion}
use Rattle.std.proofs.ByRecursion.{All-push}
use Rattle.std.proofs.lemmas.List.{take_all, take_more, length-take, length-take-le, length-drop, length_push, get_or_push, get_or_append_left, take-append-le, flat_map_more}
use Rattle.std.proofs.lemmas.Bool.{cases_Bool, cases_lt, cond-true, cond-false, eq-eqb, eqb-true, not-true}
use Rattle.refusals.specs.declared.Refusal.{Refusal}
use Rattle.weights.specs.declared.weight.Weight.{Ghosts}
use Rattle.plans.specs.Calls.{check}
use Rattle.plans.specs.Model.{Model}
use Rattle.sheets.specs.declared.issue.Issue.{Issue}
use Rattle.sheets.specs.declared.issue.Issue.TheVariants.{First, Second}
use Rattle.sheets.specs.Fields.{Field, code, bytes_at, code_fields, code_place, issue_in, link_place, links_in, text_in, text_of, texts_in, units_in, place_of, part_of}
use Rattle.sheets.specs.Faults.{fault_of, fault_with, wrong, Faultless}
use Rattle.sheets.specs.Format.{code_field, size_of_code, bytes_of_head, link_size, sheet_of}
use Rattle.sheets.proofs.Firsts.{none_some}
use Rattle.readers.specs.Loads.{Apart, Loaded}
use Rattle.readers.proofs.Filling.{clear_at, left_clear}
use Rattle.readers.proofs.Heads.{whole}
use Rattle.readers.proofs.Linking.{first_link}
use Rattle.readers.proofs.Pieces.{bytes_join}

-- a check that is passed
pub check_passed : (ok : Bool) (e : Refusal) (rest : Option Refusal) → check ok e rest ≡ None → (ok ≡ true) × (rest ≡ None)
check_passed true e rest h = (refl, h)
check_passed false e rest h = absurd (none_some h refl)

-- the field of a code has the code's characters
pub field_back : (i : Issue) (f : List ℕ) → length f ≡ size_of_code i → code_field i (text_of i f) ≡ f
field_back First f h = refl
field_back Second f h =
    ⊎_elim
    (λ (e : eqb (get_or f 6 0) 0 ≡ true).
    let six : length (take 6 f) ≡ 6 = length-take-le 6 f (omega arith) in
    let last : take 7 f ≡ take 6 f ++ (get_or f 6 0 ∷ []) = take_more f 6 0 (omega arith) in
    ap (code_field Second) (cond-true (eqb (get_or f 6 0) 0) (take 6 f) f e)
    ∙ (cond-true (eqb (length (take 6 f)) 6) (take 6 f ++ (0 ∷ [])) (take 6 f) (eq-eqb _ 6 six)
    ∙ (ap (λ x. take 6 f ++ (x ∷ [])) (sym (eqb-true (get_or f 6 0) 0 e)) ∙ (sym last ∙ take_all 7 f (omega arith)))))
    (λ (e : eqb (get_or f 6 0) 0 ≡ false).
    ap (code_field Second) (cond-false (eqb (get_or f 6 0) 0) (take 6 f) f e)
    ∙ ap (λ n. cond (eqb n 6) (f ++ (0 ∷ [])) f) h)
    (cases_Bool (eqb (get_or f 6 0) 0))

text_fits : (i : Issue) (f : List ℕ) → length f ≤ size_of_code i → length (text_of i f) ≤ size_of_code i
text_fits First f h = h
text_fits Second f h =
    ⊎_elim
    (λ (e : eqb (get_or f 6 0) 0 ≡ true). subst (λ x. length x ≤ 7) (sym (cond-true _ (take 6 f) f e)) (let n = length-take 6 f in omega arith))
    (λ (e : eqb (get_or f 6 0) 0 ≡ false). subst (λ x. length x ≤ 7) (sym (cond-false _ (take 6 f) f e)) h)
    (cases_Bool (eqb (get_or f 6 0) 0))

module _ (bs : List ℕ) where
  pub length_texts : (n : ℕ) → length (texts_in bs n) ≡ n
  length_texts zero = refl
  length_texts (suc n) = length_push (texts_in bs n) (text_in bs n) ∙ (ap (λ k. k + 1) (length_texts n) ∙ add-one n)

  pub text_at : (n k : ℕ) → k < n → (get_or (texts_in bs n) k [] ≡ text_in bs k) × (take k (texts_in bs n) ≡ texts_in bs k)
  text_at zero k lt = absurd (omega arith)
  text_at (suc n) k lt =
      let size = length_texts n in
      ⊎_elim
      (λ (l : k < n). let h = text_at n k l in (get_or_append_left (texts_in bs n) (text_in bs n ∷ []) [] k (omega arith) ∙ h.0, take-append-le k (texts_in bs n) (text_in bs n ∷ []) (omega arith) ∙ h.1))
      (λ l. let s : n ≡ k = omega arith in
      (get_or_push (texts_in bs n) (text_in bs n) [] k (size ∙ s) ∙ ap (text_in bs) s, take-append-le k (texts_in bs n) (text_in bs n ∷ []) (omega arith) ∙ (take_all k (texts_in bs n) (omega arith) ∙ ap (texts_in bs) s)))
      (cases_lt k n)

  pub texts_fit : (n : ℕ) → AllByRecursion (λ text. length text ≤ size_of_code (issue_in bs)) (texts_in bs n)
  texts_fit zero = tt
  texts_fit (suc n) =
      All-push (λ text. length text ≤ size_of_code (issue_in bs)) (texts_in bs n) (text_in bs n) (texts_fit n)
      (text_fits (issue_in bs) (bytes_at bs (code_place bs n) (size_of_code (issue_in bs))) (let h = length-take (size_of_code (issue_in bs)) (drop (code_place bs n) bs) in omega arith))

module _ {W : Type 0} (g : Ghosts W) (bs : List ℕ) where
  -- a field with no fault is right
  pub right : (f : Field) → fault_of g bs f ≡ None → wrong g bs f ≡ None
  unfolding fault_of
  right f h = (check_passed _ _ _ (none-verdict _ h)).1
    where
      none-verdict : (v : Option Refusal) → fault_with (place_of g bs f) (part_of f) v ≡ None → v ≡ None
      none-verdict None e = refl
      none-verdict (Some r) e = absurd (none_some e refl)

  -- the codes of a sheet without faults are apart
  pub apart : (n : ℕ) (texts : List (List ℕ)) → texts ≡ texts_in bs n → Faultless g bs (code_fields n) → Apart texts
  apart n texts e clear k lt =
      let size : length texts ≡ n = ap length e ∙ length_texts bs n in
      let low : k < n = omega arith in
      let v = check_passed _ _ _ (right (code k) (clear_at g bs (λ j. code j ∷ []) n k low clear).0) in
      let free = not-true _ (check_passed _ _ _ v.1).0 in
      let t = text_at bs n k low in
      rw (e, t.0, t.1) free

  pub codes_bytes : (n : ℕ) → Faultless g bs (code_fields n) → bytes_at bs 9 (n * size_of_code (issue_in bs)) ≡ flat_map (code_field (issue_in bs)) (texts_in bs n)
  codes_bytes zero clear = ap (bytes_at bs 9) (zero-mul (size_of_code (issue_in bs)))
  codes_bytes (suc n) clear =
      let i = issue_in bs in
      let s = size_of_code i in
      let piece = bytes_at bs (code_place bs n) s in
      let full = whole g bs (code n) (clear_at g bs (λ j. code j ∷ []) (suc n) n (omega arith) clear).0 in
      let size : length piece ≡ s = length-take-le s (drop (code_place bs n) bs) (let h = length-drop (code_place bs n) bs in omega arith) in
      let before = left_clear g bs (code_fields n) (code n ∷ []) clear in
      ap (bytes_at bs 9) (suc-mul n s)
      ∙ (bytes_join bs 9 (n * s) s
      ∙ (ap (λ x. x ++ piece) (codes_bytes n before)
      ∙ (ap (λ x. flat_map (code_field i) (texts_in bs n) ++ x) (sym (field_back i piece size))
      ∙ flat_map_more (code_field i) [] (texts_in bs n) (text_in bs n))))

  -- head, codes and links are all the bytes
  pub assembled : (before m : Model W) → length bs ≡ link_place g bs (links_in bs) → bytes_at bs 0 9 ≡ bytes_of_head g (issue_in bs) (units_in bs) (links_in bs)
      → Faultless g bs (code_fields (units_in bs)) → before.codes ≡ texts_in bs (units_in bs) → Loaded g bs before m → bs ≡ sheet_of g (issue_in bs) m
  assembled before m len head clear codes loaded =
      let i = issue_in bs in
      let u = units_in bs in
      let n = links_in bs in
      let cs = u * size_of_code i in
      let ls = n * link_size g in
      let texts : m.codes ≡ texts_in bs u = loaded.codes ∙ codes in
      let size : length bs ≡ 9 + (cs + ls) = omega arith in
      let units : length m.codes ≡ u = ap length texts ∙ length_texts bs u in
      let first : 9 + cs ≡ link_place g bs 0 = first_link g bs in
      sym (take_all (length bs) bs (omega arith))
      ∙ (ap (bytes_at bs 0) size
      ∙ (bytes_join bs 0 9 (cs + ls)
      ∙ (ap (λ x. bytes_at bs 0 9 ++ x) (bytes_join bs 9 cs ls)
      ∙ (ap (λ x. x ++ (bytes_at bs 9 cs ++ bytes_at bs (9 + cs) ls)) (head ∙ ap₂ (bytes_of_head g i) (sym units) (sym loaded.count))
      ∙ ap₂ (λ x y. bytes_of_head g i (length m.codes) (length m.links) ++ (x ++ y))
      (codes_bytes u clear ∙ ap (flat_map (code_field i)) (sym texts))
      (ap (λ p. bytes_at bs p ls) first ∙ loaded.bytes)))))
