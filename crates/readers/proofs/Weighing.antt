-- Reading one number of a weight after the other, and the weight.
use Rattle.std.proofs.Common.{◌≡◌, ℕ, zero, suc, ◌+◌, ◌*◌, ◌<◌, ◌≤◌, ◌≢◌, List, [], ◌∷◌, ◌++◌, length, get_or, set, Some, None, Ok, Err, Option, Result, sym, refl, ap, ◌∙◌, subst, add-one, arith, below_more, MatchResult}
use Rattle.std.specs.Result.{IsErrAnd}
use Rattle.std.proofs.ByRecursion.{All-append}
use Rattle.std.proofs.lemmas.List.{get_or-set_same, get_or-set_other}
use Rattle.std.proofs.lemmas.Bool.{cond-true, le-leb}
use Rattle.refusals.specs.declared.Refusal.{Refusal}
use Rattle.weights.specs.declared.weight.Weight.{Ghosts}
use Rattle.weights.specs.Laws.{Exact}
use Rattle.plans.specs.Calls.{accepted, most_total}
use Rattle.sheets.specs.declared.fault.Fault.{Fault}
use Rattle.sheets.specs.declared.fault.Part.{Part}
use Rattle.sheets.specs.declared.fault.Part.TheVariants as part
use Rattle.sheets.specs.Fields.{number, weight, bytes_at, four_at, number_fields, number_place, total_in, weight_in, amount_in}
use Rattle.sheets.specs.Faults.{fault_of, fault_with, weight_verdict, Faultless, FirstIn}
use Rattle.sheets.specs.Format.{four, fours}
use Rattle.sheets.proofs.Firsts.{clear_more, in_one, in_right}
use Rattle.readers.specs.declared.cursor.Cursor.{Cursor}
use Rattle.readers.specs.Records.{Numbers, Reads, Weighed}
use Rattle.readers.specs.Steps.{Stands, Took}
use Rattle.readers.proofs.Exits.{broke}
use Rattle.readers.proofs.Heads.{One}
use Rattle.readers.proofs.Pieces.{at_place, bytes_join}

-- the first n numbers of link k were read
pub record Numbering {W : Type 0} (g : Ghosts W) (bs : List ℕ) (k n : ℕ) (c : Cursor) (parts : List ℕ) : Type 0 where
  pub stands : Stands bs (number_place g bs k n) c
  pub within : c.part ≡ part.Link k
  pub clear : Faultless g bs (number_fields k n)
  pub numbers : Numbers g bs k n parts

pub fours_same : (f h : ℕ → ℕ) (n : ℕ) → ((i : ℕ) → i < n → f i ≡ h i) → fours f n ≡ fours h n
fours_same f h zero e = refl
fours_same f h (suc n) e = ap (λ xs. xs ++ four (f n)) (fours_same f h n (λ i l. e i (omega arith))) ∙ ap (λ x. fours h n ++ four x) (e n (omega arith))

module _ {W : Type 0} (g : Ghosts W) (bs : List ℕ) (k : ℕ) where
  pub number_read : {b a : Cursor} (i : ℕ) {r : Result ℕ Fault} → Stands bs (number_place g bs k i) b → b.part ≡ part.Link k
      → Took b b.part 4 accepted r a (λ n. (n ≡ four_at b.bytes.now b.at) × (bytes_at b.bytes.now b.at 4 ≡ four n))
      → One g bs (number k i) (number_place g bs k (i + 1)) r a (λ n. (n ≡ four_at bs (number_place g bs k i)) × (bytes_at bs (number_place g bs k i) 4 ≡ four n))
  unfolding fault_of
  number_read {b} {a} i {r} s w t =
      let Q : ℕ → Type 0 = λ n. (n ≡ four_at bs (number_place g bs k i)) × (bytes_at bs (number_place g bs k i) 4 ≡ four n) in
      let v = at_place (λ x q. accepted) (λ x q n. (n ≡ four_at x q) × (bytes_at x q 4 ≡ four n)) (part.Link k) 4 r b a bs (number_place g bs k i) b.part s w t in
      let next : number_place g bs k i + 4 ≡ number_place g bs k (i + 1) = omega arith in
      subst (λ n. One g bs (number k i) n r a Q) next v

  pub numbering_none : (c : Cursor) (parts : List ℕ) → c.bytes.now ≡ bs → c.at ≡ number_place g bs k 0 → c.part ≡ part.Link k → Numbering g bs k 0 c parts
  numbering_none c parts b p w = record { stands = record { bytes = b; place = p }; within = w; clear = tt; numbers = record { values = λ i h. absurd (omega arith); bytes = refl } }

  pub numbering_more : {i : ℕ} {c a : Cursor} {parts : List ℕ} {x : ℕ} → i < length parts → Numbering g bs k i c parts
      → fault_of g bs (number k i) ≡ None → x ≡ four_at bs (number_place g bs k i) → bytes_at bs (number_place g bs k i) 4 ≡ four x → Stands bs (number_place g bs k (i + 1)) a → a.part ≡ part.Link k
      → Numbering g bs k (i + 1) a (set parts i x)
  numbering_more {i} {c} {a} {parts} {x} room was none is piece at w =
      let f : ℕ → ℕ = λ j. four_at bs (number_place g bs k j) in
      let size : 4 * (i + 1) ≡ 4 * i + 4 = omega arith in
      let here : number_place g bs k 0 + 4 * i ≡ number_place g bs k i = omega arith in
      record {
        stands = at;
        within = w;
        clear = clear_more g bs (λ j. number k j ∷ []) i was.clear (none, tt);
        numbers = record {
          values = below_more (λ j. get_or (set parts i x) j 0 ≡ four_at bs (number_place g bs k j)) i
              (λ j h. let ne : j ≢ i = omega arith in get_or-set_other parts i j x 0 ne ∙ was.numbers.values j h)
              (get_or-set_same parts i x 0 room ∙ is);
          bytes = ap (bytes_at bs (number_place g bs k 0)) size
              ∙ (bytes_join bs (number_place g bs k 0) (4 * i) 4
              ∙ (ap (λ p. bytes_at bs (number_place g bs k 0) (4 * i) ++ bytes_at bs p 4) here
              ∙ (ap (λ y. bytes_at bs (number_place g bs k 0) (4 * i) ++ y) (piece ∙ ap four is)
              ∙ (ap (λ y. y ++ four (f i)) was.numbers.bytes
              ∙ sym (ap (fours f) (add-one i))))));
        };
      }

  module _ (exact : Exact g.PARTS g.of g.nth) (parts : List ℕ) (all : Numbers g bs k g.PARTS parts) where
    -- the weight with the numbers that were read
    pub weight_is : g.of (λ i. get_or parts i 0) ≡ weight_in g bs k
    weight_is = exact.same _ _ all.values

    pub weight_bytes : (v : g.Value) → v ≡ weight_in g bs k → bytes_at bs (number_place g bs k 0) (4 * g.PARTS) ≡ fours (g.nth v) g.PARTS
    weight_bytes v e = all.bytes ∙ fours_same _ (g.nth v) g.PARTS (λ i h. sym (ap (λ x. g.nth x i) e ∙ exact.holds _ i h))

    pub weight_fault : (total : ℕ) (v : Option Refusal) → total ≡ total_in g bs k → number_place g bs k 0 + 4 * g.PARTS ≤ length bs
        → weight_verdict total (g.size (g.of (λ i. get_or parts i 0))) ≡ v → fault_of g bs (weight k) ≡ fault_with (number_place g bs k 0) (part.Link k) v
    unfolding fault_of
    weight_fault total v t len h =
        ap (fault_with (number_place g bs k 0) (part.Link k)) (cond-true _ _ _ (le-leb _ _ len))
        ∙ (ap (λ n. fault_with (number_place g bs k 0) (part.Link k) (weight_verdict n (amount_in g bs k))) (sym t)
        ∙ (ap (λ v. fault_with (number_place g bs k 0) (part.Link k) (weight_verdict total (g.size v))) (sym weight_is) ∙ ap (fault_with (number_place g bs k 0) (part.Link k)) h))

    -- what the judgement on these numbers says of the weight
    abbrev pub Judged : ℕ → Result W Refusal → Type 0
    Judged total r =
        MatchResult r
        (λ w. (weight_verdict total (g.size (g.of (λ i. get_or parts i 0))) ≡ None) × (g.value w ≡ g.of (λ i. get_or parts i 0)) × (0 < g.size (g.value w)) × (total + g.size (g.value w) ≤ most_total))
        (λ e. weight_verdict total (g.size (g.of (λ i. get_or parts i 0))) ≡ Some e)

    module _ (a : Cursor) (total : ℕ) (t : total ≡ total_in g bs k) (clear : Faultless g bs (number_fields k g.PARTS)) (at : Stands bs (number_place g bs k g.PARTS) a) (len : number_place g bs k 0 + 4 * g.PARTS ≤ length bs) where
      weight_read : (w : W) → Judged total (Ok w) → Reads g bs (number_fields k g.PARTS ++ (weight k ∷ [])) (Ok w) a (number_place g bs k g.PARTS) (Weighed g bs k)
      weight_read w h =
          let v = h.1 ∙ weight_is in
          record {
            taken = (
              All-append (λ f. fault_of g bs f ≡ None) (number_fields k g.PARTS) (weight k ∷ []) clear (weight_fault total None t len h.0, tt),
              record { value = v; some = h.2; limited = subst (λ n. n + g.size (g.value w) ≤ most_total) t h.3; bytes = weight_bytes (g.value w) v },
            );
            moved = at;
          }

      weight_refused : (e : Refusal) → Judged total (Err e) → FirstIn g bs (number_fields k g.PARTS ++ (weight k ∷ [])) (record { refusal = e; place = number_place g bs k 0; part = part.Link k })
      weight_refused e h = in_right g bs (number_fields k g.PARTS) (weight k ∷ []) _ clear (in_one g bs (weight k) _ (weight_fault total (Some e) t len h))

      -- the judgement as a result of reading
      pub weight_told : (place : ℕ) (q : Part) (j : Result W Refusal) (r : Result W Fault) → place ≡ number_place g bs k 0 → q ≡ part.Link k → Judged total j
          → MatchResult j (λ w. r ≡ Ok w) (λ e. r ≡ Err (record { refusal = e; place = place; part = q }))
          → Reads g bs (number_fields k g.PARTS ++ (weight k ∷ [])) r a (number_place g bs k g.PARTS) (Weighed g bs k)
      weight_told place q (Ok w) r p e h is =
          subst (λ x. Reads g bs (number_fields k g.PARTS ++ (weight k ∷ [])) x a (number_place g bs k g.PARTS) (Weighed g bs k)) (sym is) (weight_read w h)
      weight_told place q (Err d) r p e h is =
          let told : Fault = record { refusal = d; place = number_place g bs k 0; part = part.Link k } in
          let same : ◌≡◌ {A = Fault} (record { refusal = d; place = place; part = q }) told = cc in
          broke (subst (λ x. IsErrAnd x (λ y. y ≡ told)) (sym is) same) (weight_refused d h)
