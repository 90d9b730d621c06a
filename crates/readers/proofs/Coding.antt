-- Reading one code after the other.
use Rattle.std.proofs.Common.{◌≡◌, ℕ, ◌+◌, ◌<◌, List, [], ◌∷◌, ◌++◌, map, length, take, set, None, Result, sym, refl, ap, ◌∙◌, subst, add-mul, one-mul, zero-mul, add-one, arith}
use Rattle.weights.specs.declared.weight.Weight.{Ghosts}
use Rattle.codes.specs.declared.code.FaultCode.{FaultCode}
use Rattle.codes.specs.Held.{bytes_of}
use Rattle.plans.specs.declared.plan.Unit.{Unit as Record}
use Rattle.plans.specs.Model.{code_of}
use Rattle.plans.proofs.Apart.{codes_more}
use Rattle.sheets.specs.declared.fault.Fault.{Fault}
use Rattle.sheets.specs.declared.fault.Part.TheVariants as part
use Rattle.sheets.specs.declared.issue.Issue.{Issue}
use Rattle.sheets.specs.Fields.{code, bytes_at, code_fields, code_place, issue_in, text_of, text_in, texts_in}
use Rattle.sheets.specs.Faults.{fault_of, code_verdict, Faultless}
use Rattle.sheets.specs.Format.{size_of_code}
use Rattle.sheets.proofs.Firsts.{clear_more}
use Rattle.readers.specs.declared.cursor.Cursor.{Cursor}
use Rattle.readers.specs.Steps.{Stands, Took}
use Rattle.readers.proofs.Heads.{One}
use Rattle.readers.proofs.Pieces.{at_place}

pub next_code : (bs : List ℕ) (k : ℕ) → code_place bs k + size_of_code (issue_in bs) ≡ code_place bs (k + 1)
next_code bs k = let s = size_of_code (issue_in bs) in let p = add-mul k 1 s in let q = one-mul s in omega arith

pub first_code : (bs : List ℕ) → ◌≡◌ {A = ℕ} 9 (code_place bs 0)
first_code bs = let p = zero-mul (size_of_code (issue_in bs)) in omega arith

-- the codes of the first k units were read
pub record Coding {W : Type 0} (g : Ghosts W) (bs : List ℕ) (k : ℕ) (c : Cursor) (us : List Record) : Type 0 where
  pub stands : Stands bs (code_place bs k) c
  pub clear : Faultless g bs (code_fields k)
  pub texts : map code_of (take k us) ≡ texts_in bs k

module _ {W : Type 0} (g : Ghosts W) (bs : List ℕ) where
  pub code_read : {b a : Cursor} (k : ℕ) {i : Issue} (earlier : List Record) {r : Result FaultCode Fault}
      → Stands bs (code_place bs k) b → i ≡ issue_in bs → length earlier ≡ k → map code_of earlier ≡ texts_in bs k
      → Took b (part.Unit (length earlier)) (size_of_code i) (code_verdict (length earlier) (text_of i (bytes_at b.bytes.now b.at (size_of_code i))) (map code_of earlier)) r a (λ c. bytes_of c ≡ text_of i (bytes_at b.bytes.now b.at (size_of_code i)))
      → One g bs (code k) (code_place bs (k + 1)) r a (λ c. bytes_of c ≡ text_in bs k)
  unfolding fault_of
  code_read {b} {a} k {i} earlier {r} s e n h t =
      let F : Issue → ℕ → List (List ℕ) → Type 0 = λ j m xs. Took b (part.Unit m) (size_of_code j) (code_verdict m (text_of j (bytes_at b.bytes.now b.at (size_of_code j))) xs) r a (λ c. bytes_of c ≡ text_of j (bytes_at b.bytes.now b.at (size_of_code j))) in
      let j = issue_in bs in
      let u = subst (λ xs. F j k xs) h (subst (λ m. F j m (map code_of earlier)) n (subst (λ x. F x (length earlier) (map code_of earlier)) e t)) in
      let v = at_place (λ x q. code_verdict k (text_of j (bytes_at x q (size_of_code j))) (texts_in bs k)) (λ x q c. bytes_of c ≡ text_of j (bytes_at x q (size_of_code j))) (part.Unit k) (size_of_code j) r b a bs (code_place bs k) (part.Unit k) s refl u in
      subst (λ n. One g bs (code k) n r a (λ c. bytes_of c ≡ text_in bs k)) (next_code bs k) v

  pub coding_none : (c : Cursor) (us : List Record) → c.bytes.now ≡ bs → c.at ≡ 9 → Coding g bs 0 c us
  coding_none c us b p = record { stands = record { bytes = b; place = p ∙ first_code bs }; clear = tt; texts = refl }

  pub coding_more : {k : ℕ} {c a : Cursor} {us : List Record} (x : FaultCode) → k < length us → Coding g bs k c us
      → fault_of g bs (code k) ≡ None → bytes_of x ≡ text_in bs k → Stands bs (code_place bs (k + 1)) a
      → Coding g bs (k + 1) a (set us k (record { code = x }))
  coding_more {k} {c} {a} {us} x room was none is at = record {
    stands = at;
    clear = clear_more g bs (λ j. code j ∷ []) k was.clear (none, tt);
    texts = codes_more us k (record { code = x }) (text_in bs k) room is ∙ (ap (λ ts. ts ++ (text_in bs k ∷ [])) was.texts ∙ sym (ap (texts_in bs) (add-one k)));
  }
