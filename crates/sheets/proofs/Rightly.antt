-- The sheet of a plan within the rules has no fault.
use Rattle.std.proofs.Common.{◌≡◌, ℕ, zero, suc, ◌+◌, ◌*◌, ◌^◌, ◌<◌, ◌≤◌, Bool, true, false, cond, not, eqb, ltb, leb, List, [], ◌∷◌, length, get_or, take, drop, None, sym, refl, ap, ◌∙◌, subst, ap₂, ⊎_elim, add-zero, suc-mul, add-one, arith}
use Rattle.std.proofs.ByRecursion.{All-append, All-get_or}
use Rattle.std.proofs.lemmas.List.{get_or-append-add, get_or-take, length-take-le, take_more, take-append-drop}
use Rattle.std.proofs.lemmas.Nat.{mul-le}
use Rattle.std.proofs.lemmas.Bool.{cond-true, cases_Bool, or_from, and_right, le-leb, lt-ltb, eq-eqb, ne_eqb}
use Rattle.refusals.specs.declared.Refusal.TheVariants.{NotACode, CodeTaken, NoSuchUnit, SelfLink, NoWeight, OverLimit, BadMark, TrailingBytes, Full, OtherKind}
use Rattle.weights.specs.declared.weight.Weight.{Ghosts}
use Rattle.weights.specs.Laws.{Exact, limit}
use Rattle.codes.specs.Code.{is_code}
use Rattle.plans.specs.declared.plan.Link.{Link}
use Rattle.plans.specs.Calls.{check, accepted}
use Rattle.plans.specs.Model.{Model, amount_of, total_of, same_text, borne_from, borne_by_other}
use Rattle.plans.specs.Sound.{Distinct, Joins}
use Rattle.plans.proofs.Bearing.{same_eq}
use Rattle.plans.proofs.Totals.{total_append}
use Rattle.plans.proofs.Verdicts.{passes}
use Rattle.sheets.specs.declared.issue.Issue.{Issue}
use Rattle.sheets.specs.declared.issue.Issue.TheVariants.{First, Second}
use Rattle.sheets.specs.Fields.{Field, magic, issue, kind, units, links, code, first, second, mark, number, weight, end, fields, head_fields, code_fields, number_fields, link_fields, through, byte_at, two_at, four_at, issue_in, units_in, links_in, link_place, number_place, weight_in, amount_in, total_in, place_of, size_of, part_of}
use Rattle.sheets.specs.Faults.{fault_of, fault_with, wrong, Faultless, Right, issue_verdict, code_verdict, end_verdict, other_verdict, weight_verdict}
use Rattle.sheets.specs.Format.{Valid, size_of_code, four, fours, link_bytes, link_size, sheet_of}
use Rattle.sheets.proofs.Seen.{byte_in, fours_at, four_digits, issue_seen, links_seen, length_seen, link_place_seen, code_seen, texts_seen, link_seen}

times : (k n s : ℕ) → k < n → k * s + s ≤ n * s
times k n s lt = let a = suc-mul k s in let b = mul-le (suc k) s n s lt (omega arith) in omega arith

-- no other unit bears a code that is among none of theirs
unborne : (text : List ℕ) (cs : List (List ℕ)) (i k : ℕ) → ((j : ℕ) → j < length cs → get_or cs j [] ≡ text → ⊥) → borne_from i k text cs ≡ false
unborne text [] i k h = refl
unborne text (c ∷ cs) i k h =
    or_from _ _
    (and_right (not (eqb i k)) (same_text c text) (⊎_elim (λ (e : same_text c text ≡ true). absurd (h 0 (omega arith) (same_eq c text e))) (λ e. e) (cases_Bool (same_text c text))))
    (unborne text cs (suc i) k (λ j lt e. h (suc j) (omega arith) e))

pub apart_before : (cs : List (List ℕ)) (k : ℕ) → Distinct cs → k < length cs → borne_by_other k (get_or cs k []) (take k cs) ≡ false
apart_before cs k d lt =
    let size = length-take-le k cs (omega arith) in
    unborne (get_or cs k []) (take k cs) 0 k (λ j l e. let low : j < k = omega arith in let s = d j k (omega arith) lt (sym (get_or-take k cs j [] low) ∙ e) in omega arith)

module _ {W : Type 0} (g : Ghosts W) (bs : List ℕ) where
  fine : (f : Field) → place_of g bs f + size_of g bs f ≤ length bs → wrong g bs f ≡ None → fault_of g bs f ≡ None
  unfolding fault_of
  fine f whole right = ap (fault_with (place_of g bs f) (part_of f)) (cond-true (leb (place_of g bs f + size_of g bs f) (length bs)) _ _ (le-leb _ _ whole) ∙ right)

  clear_all : (f : ℕ → List Field) (n : ℕ) → ((k : ℕ) → k < n → Faultless g bs (f k)) → Faultless g bs (through f n)
  clear_all f zero h = tt
  clear_all f (suc n) h = All-append (λ x. fault_of g bs x ≡ None) (through f n) (f n) (clear_all f n (λ k lt. h k (omega arith))) (h n (omega arith))

module _ {W : Type 0} (g : Ghosts W) (i : Issue) (m : Model W) (v : Valid g i m) where
  abbrev S : List ℕ
  S = sheet_of g i m

  nine : 9 ≤ length S
  nine = let h = length_seen g i m v in omega arith

  issue_fine : (j : Issue) → issue_verdict (two_at (sheet_of g j m) 3) ≡ None
  issue_fine First = refl
  issue_fine Second = refl

  head_clear : Faultless g S head_fields
  head_clear =
      let h = nine in
      let few = v.few in (
        fine g S magic (omega arith) refl,
        (
          fine g S issue (omega arith) (issue_fine i),
          (
            fine g S kind (omega arith) (passes OtherKind accepted (eq-eqb g.KIND g.KIND refl)),
            (
              fine g S units (omega arith) (passes Full accepted (le-leb (length m.codes) 64 few)),
              (
                fine g S links (omega arith) (passes Full accepted (le-leb (links_in S) 512 (let e = links_seen g i m v in let s = v.short in omega arith))),
                tt,
              ),
            ),
          ),
        ),
      )

  code_clear : (k : ℕ) → k < length m.codes → Faultless g S (code k ∷ [])
  code_clear k lt =
      let len = length_seen g i m v in
      let more = times k (length m.codes) (size_of_code i) lt in
      let whole : 9 + k * size_of_code (issue_in S) + size_of_code (issue_in S) ≤ length S = subst (λ j. 9 + k * size_of_code j + size_of_code j ≤ length S) (sym (issue_seen g i m v)) (omega arith) in (
        fine g S (code k) whole
            (ap₂ (code_verdict k) (code_seen g i m v k lt) (texts_seen g i m v k (omega arith))
            ∙ (passes NotACode _ (All-get_or (λ t. is_code t ≡ true) m.codes k [] lt v.codes) ∙ passes CodeTaken accepted (ap not (apart_before m.codes k v.distinct lt)))),
        tt,
      )

  module _ (exact : Exact g.PARTS g.of g.nth) (bounded : (x : W) → g.size (g.value x) ≤ limit) (narrow : (x : W) (j : ℕ) → g.nth (g.value x) j < 2 ^ 32) (d : Link W) where
    module _ (k : ℕ) (lt : k < length m.links) where
      l : Link W
      l = get_or m.links k d

      byte_seen : (j : ℕ) → j < link_size g → byte_at S (link_place g S k + j) ≡ get_or (link_bytes g l) j 0
      unfolding l
      byte_seen j h = byte_in S (link_bytes g l) (link_place g S k) (link_size g) j (link_seen g i m v k d lt) h

      digit_seen : (j r : ℕ) → j < g.PARTS → r < 4 → byte_at S (number_place g S k j + r) ≡ get_or (four (g.nth (g.value l.weight) j)) r 0
      digit_seen j r h small =
          let f = g.nth (g.value l.weight) in
          let e : number_place g S k j + r ≡ link_place g S k + (3 + (4 * j + r)) = omega arith in
          ap (byte_at S) e
          ∙ (byte_seen (3 + (4 * j + r)) (omega arith)
          ∙ (get_or-append-add (l.first ∷ l.second ∷ cond l.in_service 1 0 ∷ []) (fours f g.PARTS) (4 * j + r) 0 ∙ fours_at f g.PARTS j r h small))

      number_seen : (j : ℕ) → j < g.PARTS → four_at S (number_place g S k j) ≡ g.nth (g.value l.weight) j
      number_seen j h =
          let a = digit_seen j 0 h (omega arith) in
          let z = ap (byte_at S) (add-zero (number_place g S k j)) in
          let b = digit_seen j 1 h (omega arith) in
          let c = digit_seen j 2 h (omega arith) in
          let e = digit_seen j 3 h (omega arith) in
          let n = four_digits (g.nth (g.value l.weight) j) (narrow l.weight j) in
          omega arith

      weight_seen : weight_in g S k ≡ g.value l.weight
      weight_seen = exact.same _ (g.nth (g.value l.weight)) number_seen ∙ exact.back (g.value l.weight)

      joins : Joins g (length m.codes) l
      unfolding l
      joins = All-get_or (Joins g (length m.codes)) m.links k d lt v.joins

      ends : link_place g S k + link_size g ≤ length S
      ends = let a = length_seen g i m v in let b = link_place_seen g i m v k in let c = times k (length m.links) (link_size g) lt in omega arith

      at0 : byte_at S (link_place g S k) ≡ l.first
      at0 = ap (byte_at S) (sym (add-zero (link_place g S k))) ∙ byte_seen 0 (omega arith)

      mark_small : (b : Bool) → cond b 1 0 < 2
      mark_small true = omega arith
      mark_small false = omega arith

      numbers_clear : Faultless g S (number_fields k g.PARTS)
      numbers_clear = clear_all g S (λ j. number k j ∷ []) g.PARTS (λ j h. (fine g S (number k j) (let e = ends in omega arith) refl, tt))

    total_seen : (k : ℕ) → k ≤ length m.links → total_in g S k ≡ total_of g (take k m.links)
    unfolding l
    total_seen zero h = refl
    total_seen (suc k) h =
        let lt : k < length m.links = omega arith in
        let r = total_seen k (omega arith) in
        let a = ap g.size (weight_seen k lt) in
        let e = ap (total_of g) (sym (ap (λ n. take n m.links) (add-one k)) ∙ take_more m.links k d lt) in
        let f = total_append g (take k m.links) (get_or m.links k d ∷ []) in
        omega arith

    link_clear : (k : ℕ) → k < length m.links → Faultless g S (link_fields g S k)
    unfolding l
    link_clear k lt =
        let j = joins k lt in
        let e = ends k lt in
        let w = (l k lt).weight in
        let b0 = at0 k lt in
        let b1 = byte_seen k lt 1 (omega arith) in
        let b2 = byte_seen k lt 2 (omega arith) in
        let amount : amount_in g S k ≡ amount_of g w = ap g.size (weight_seen k lt) in
        let total = total_seen k (omega arith) in
        let most : total_of g (take k m.links) + amount_of g w ≤ 1000000 =
        let x = ap (total_of g) (take_more m.links k d lt) in
        let y = total_append g (take k m.links) (l k lt ∷ []) in
        let z = ap (total_of g) (take-append-drop (k + 1) m.links) in
        let u = total_append g (take (k + 1) m.links) (drop (k + 1) m.links) in
        let t = v.limited in
        omega arith in (
          fine g S (first k) (omega arith) (ap (end_verdict (length m.codes)) b0 ∙ passes NoSuchUnit accepted (lt-ltb _ _ j.first)),
          (
            fine g S (second k) (omega arith) (ap₂ (other_verdict (length m.codes)) b0 b1 ∙ (passes NoSuchUnit _ (lt-ltb _ _ j.second) ∙ passes SelfLink accepted (ap not (ne_eqb _ _ j.apart)))),
            (
              fine g S (mark k) (omega arith) (ap (λ x. check (ltb x 2) BadMark accepted) b2 ∙ passes BadMark accepted (lt-ltb _ 2 (mark_small k lt (l k lt).in_service))),
              All-append (λ x. fault_of g S x ≡ None) (number_fields k g.PARTS) (weight k ∷ []) (numbers_clear k lt) (
                fine g S (weight k) (omega arith)
                    (ap₂ weight_verdict total amount
                    ∙ (passes NoWeight _ (ap not (ne_eqb _ 0 (λ z. let p = j.weighty in omega arith)))
                    ∙ (passes OverLimit _ (le-leb _ _ (bounded w)) ∙ passes OverLimit accepted (le-leb _ _ most)))),
                tt,
              ),
            ),
          ),
        )

pub sheet_right : {W : Type 0} (g : Ghosts W) → Exact g.PARTS g.of g.nth → ((x : W) → g.size (g.value x) ≤ limit) → ((x : W) (j : ℕ) → g.nth (g.value x) j < 2 ^ 32)
    → (i : Issue) (m : Model W) → Valid g i m → Right g (sheet_of g i m)
unfolding fields
sheet_right {W} g exact bounded narrow i m v =
    let bs = sheet_of g i m in
    let P : Field → Type 0 = λ f. fault_of g bs f ≡ None in
    let n = links_seen g i m v in
    let place = link_place_seen g i m v (links_in bs) in
    let len = length_seen g i m v in
    let last : link_place g bs (links_in bs) ≡ length bs = place ∙ (ap (λ k. 9 + (length m.codes * size_of_code i + k * link_size g)) n ∙ sym len) in
    All-append P head_fields _ (head_clear g i m v)
    (All-append P (code_fields (units_in bs)) _ (clear_all g bs (λ k. code k ∷ []) (length m.codes) (code_clear g i m v))
    (All-append P (through (link_fields g bs) (links_in bs)) (end ∷ [])
    (clear_all g bs (link_fields g bs) (links_in bs) (λ k lt. let low : k < length m.links = omega arith in link_clear g i m v exact bounded narrow (some m.links low) k low))
    (fine g bs end (omega arith) (passes TrailingBytes accepted (le-leb _ _ (omega arith))), tt)))
  where
    some : (xs : List (Link W)) {k : ℕ} → k < length xs → Link W
    some [] lt = absurd (omega arith)
    some (x ∷ xs) lt = x
