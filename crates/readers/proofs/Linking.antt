-- Reading a link, field by field.
use Rattle.std.proofs.Common.{◌≡◌, ℕ, ◌+◌, ◌*◌, ◌<◌, ◌≤◌, Bool, cond, ltb, List, [], ◌∷◌, ◌++◌, length, Result, sym, ap, ◌∙◌, subst, add-mul, one-mul, zero-mul, arith}
use Rattle.refusals.specs.declared.Refusal.TheVariants.{BadMark}
use Rattle.weights.specs.declared.weight.Weight.{Ghosts}
use Rattle.plans.specs.declared.plan.Link.{Link}
use Rattle.plans.specs.Calls.{accepted, check}
use Rattle.sheets.specs.declared.fault.Fault.{Fault}
use Rattle.sheets.specs.declared.fault.Part.TheVariants as part
use Rattle.sheets.specs.Fields.{first, second, mark, weight, byte_at, bytes_at, code_place, units_in, link_fields, link_place, number_fields, number_place, total_in}
use Rattle.sheets.specs.Faults.{fault_of, end_verdict, other_verdict}
use Rattle.sheets.specs.Format.{link_size, fours}
use Rattle.readers.specs.declared.cursor.Cursor.{Cursor}
use Rattle.readers.specs.Records.{Linked, Reads, Weighed}
use Rattle.readers.specs.Steps.{Stands, Took}
use Rattle.readers.proofs.Heads.{One}
use Rattle.readers.proofs.Pieces.{at_place, bytes_join, byte_alone}

module _ {W : Type 0} (g : Ghosts W) (bs : List ℕ) where
  pub next_link : (k : ℕ) → number_place g bs k g.PARTS ≡ link_place g bs (k + 1)
  next_link k = let s = link_size g in let p = add-mul k 1 s in let q = one-mul s in omega arith

  pub first_link : code_place bs (units_in bs) ≡ link_place g bs 0
  first_link = let p = zero-mul (link_size g) in omega arith

  pub numbers_start : (k : ℕ) → link_place g bs k + 3 ≡ number_place g bs k 0
  numbers_start k = omega arith

  module _ (k : ℕ) {b a : Cursor} where
    pub first_read : {n : ℕ} {r : Result ℕ Fault} → Stands bs (link_place g bs k) b → b.part ≡ part.Link k → n ≡ units_in bs
        → Took b b.part 1 (end_verdict n (byte_at b.bytes.now b.at)) r a (λ e. (e ≡ byte_at b.bytes.now b.at) × (e < n))
        → One g bs (first k) (link_place g bs k + 1) r a (λ e. (e ≡ byte_at bs (link_place g bs k)) × (e < units_in bs))
    unfolding fault_of
    first_read {n} {r} s w e t =
        let u = subst (λ m. Took b b.part 1 (end_verdict m (byte_at b.bytes.now b.at)) r a (λ e. (e ≡ byte_at b.bytes.now b.at) × (e < m))) e t in
        at_place (λ x q. end_verdict (units_in bs) (byte_at x q)) (λ x q e. (e ≡ byte_at x q) × (e < units_in bs)) (part.Link k) 1 r b a bs (link_place g bs k) b.part s w u

    pub second_read : {n one : ℕ} {r : Result ℕ Fault} → Stands bs (link_place g bs k + 1) b → b.part ≡ part.Link k → n ≡ units_in bs → one ≡ byte_at bs (link_place g bs k)
        → Took b b.part 1 (other_verdict n one (byte_at b.bytes.now b.at)) r a (λ e. (e ≡ byte_at b.bytes.now b.at) × (e < n) × (one ≡ e → ⊥))
        → One g bs (second k) (link_place g bs k + 2) r a (λ e. (e ≡ byte_at bs (link_place g bs k + 1)) × (e < units_in bs) × (one ≡ e → ⊥))
    unfolding fault_of
    second_read {n} {one} {r} s w e o t =
        let F : ℕ → ℕ → Type 0 = λ m x. Took b b.part 1 (other_verdict m x (byte_at b.bytes.now b.at)) r a (λ e. (e ≡ byte_at b.bytes.now b.at) × (e < m) × (one ≡ e → ⊥)) in
        let u = subst (λ x. F (units_in bs) x) o (subst (λ m. F m one) e t) in
        let Q : ℕ → Type 0 = λ e. (e ≡ byte_at bs (link_place g bs k + 1)) × (e < units_in bs) × (one ≡ e → ⊥) in
        let next : link_place g bs k + 1 + 1 ≡ link_place g bs k + 2 = omega arith in
        subst (λ n. One g bs (second k) n r a Q) next
        (at_place (λ x q. other_verdict (units_in bs) (byte_at bs (link_place g bs k)) (byte_at x q)) (λ x q e. (e ≡ byte_at x q) × (e < units_in bs) × (one ≡ e → ⊥)) (part.Link k) 1 r b a bs (link_place g bs k + 1) b.part s w u)

    pub mark_read : {r : Result Bool Fault} → Stands bs (link_place g bs k + 2) b → b.part ≡ part.Link k
        → Took b b.part 1 (check (ltb (byte_at b.bytes.now b.at) 2) BadMark accepted) r a (λ m. cond m 1 0 ≡ byte_at b.bytes.now b.at)
        → One g bs (mark k) (number_place g bs k 0) r a (λ m. cond m 1 0 ≡ byte_at bs (link_place g bs k + 2))
    unfolding fault_of
    mark_read {r} s w t =
        let Q : Bool → Type 0 = λ m. cond m 1 0 ≡ byte_at bs (link_place g bs k + 2) in
        let next : link_place g bs k + 2 + 1 ≡ number_place g bs k 0 = omega arith in
        subst (λ n. One g bs (mark k) n r a Q) next
        (at_place (λ x q. check (ltb (byte_at x q) 2) BadMark accepted) (λ x q m. cond m 1 0 ≡ byte_at x q) (part.Link k) 1 r b a bs (link_place g bs k + 2) b.part s w t)

  -- the link that the fields make
  pub linked : (k : ℕ) (x y : ℕ) (m : Bool) (w : W)
      → (x ≡ byte_at bs (link_place g bs k)) → x < units_in bs → (y ≡ byte_at bs (link_place g bs k + 1)) → y < units_in bs → (x ≡ y → ⊥)
      → cond m 1 0 ≡ byte_at bs (link_place g bs k + 2) → Weighed g bs k w → link_place g bs k + 3 ≤ length bs
      → Linked g bs k (record { first = x; second = y; in_service = m; weight = w })
  linked k x y m w xe xl ye yl ne me we len =
      let p = link_place g bs k in
      let one = byte_alone bs p (omega arith) ∙ ap (λ v. v ∷ []) (sym xe) in
      let two = byte_alone bs (p + 1) (omega arith) ∙ ap (λ v. v ∷ []) (sym ye) in
      let three = byte_alone bs (p + 2) (omega arith) ∙ ap (λ v. v ∷ []) (sym me) in
      let n = 4 * g.PARTS in
      let a1 : p + 1 + 1 ≡ p + 2 = omega arith in
      let a2 : p + 2 + 1 ≡ number_place g bs k 0 = omega arith in
      let s3 : link_size g ≡ 1 + (1 + (1 + n)) = omega arith in
      let last : bytes_at bs (p + 2) (1 + n) ≡ cond m 1 0 ∷ fours (g.nth (g.value w)) g.PARTS =
      bytes_join bs (p + 2) 1 n ∙ (ap (λ v. v ++ bytes_at bs (p + 2 + 1) n) three ∙ ap (λ v. cond m 1 0 ∷ v) (ap (λ q. bytes_at bs q n) a2 ∙ we.bytes)) in
      let mid : bytes_at bs (p + 1) (1 + (1 + n)) ≡ y ∷ cond m 1 0 ∷ fours (g.nth (g.value w)) g.PARTS =
      bytes_join bs (p + 1) 1 (1 + n) ∙ (ap (λ v. v ++ bytes_at bs (p + 1 + 1) (1 + n)) two ∙ ap (λ v. y ∷ v) (ap (λ q. bytes_at bs q (1 + n)) a1 ∙ last)) in
      record {
        joins = record { first = xl; second = yl; apart = ne; weighty = we.some };
        amount = ap g.size we.value;
        limited = we.limited;
        bytes = ap (bytes_at bs p) s3 ∙ (bytes_join bs p 1 (1 + (1 + n)) ∙ (ap (λ v. v ++ bytes_at bs (p + 1) (1 + (1 + n))) one ∙ ap (λ v. x ∷ v) mid));
      }

  -- what is promised of a weight and of a link at the cursor's place, at the place itself
  pub weight_here : (k : ℕ) {total : ℕ} {b a : Cursor} {r : Result W Fault} → Stands bs (number_place g bs k 0) b → b.part ≡ part.Link k → total ≡ total_in g bs k
      → ((j : ℕ) → b.part ≡ part.Link j → b.at ≡ number_place g b.bytes.now j 0 → total ≡ total_in g b.bytes.now j
      → Reads g b.bytes.now (number_fields j g.PARTS ++ (weight j ∷ [])) r a (number_place g b.bytes.now j g.PARTS) (Weighed g b.bytes.now j))
      → Reads g bs (number_fields k g.PARTS ++ (weight k ∷ [])) r a (number_place g bs k g.PARTS) (Weighed g bs k)
  weight_here k s w sum h = let here = rw s.bytes at (h k) in here w s.place sum

  pub link_here : (k : ℕ) {units total : ℕ} {b a : Cursor} {r : Result (Link W) Fault} → Stands bs (link_place g bs k) b → units ≡ units_in bs → total ≡ total_in g bs k
      → (b.at ≡ link_place g b.bytes.now k → units ≡ units_in b.bytes.now → total ≡ total_in g b.bytes.now k
      → Reads g b.bytes.now (link_fields g b.bytes.now k) r a (link_place g b.bytes.now (k + 1)) (Linked g b.bytes.now k))
      → Reads g bs (link_fields g bs k) r a (link_place g bs (k + 1)) (Linked g bs k)
  link_here k s count sum h = let here = rw s.bytes at h in here s.place count sum
