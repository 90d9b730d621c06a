-- Adding one link of a right sheet after the other.
use Rattle.std.proofs.Common.{◌≡◌, ℕ, zero, suc, ◌+◌, ◌*◌, ◌<◌, ◌≤◌, List, [], ◌∷◌, ◌++◌, length, None, Ok, sym, refl, ap, ◌∙◌, subst, ⊎_elim, add-mul, one-mul, zero-mul, add-one, arith}
use Rattle.std.specs.List.{flat_map, AllByRecursion}
use Rattle.std.proofs.lemmas.List.{flat_map_more, length_push}
use Rattle.std.proofs.lemmas.Bool.{cases_lt}
use Rattle.weights.specs.declared.weight.Weight.{Ghosts}
use Rattle.plans.specs.declared.plan.Link.{Link}
use Rattle.plans.specs.declared.plan.Plan.{Plan}
use Rattle.plans.specs.Calls.{most_total}
use Rattle.plans.specs.Model.{Model, model_of, amount_of, total_of, linked}
use Rattle.plans.specs.Sound.{Joins}
use Rattle.plans.proofs.Totals.{total_append}
use Rattle.sheets.specs.Fields.{Field, bytes_at, link_fields, link_place, links_in, through, total_in, units_in}
use Rattle.sheets.specs.Faults.{fault_of, Faultless}
use Rattle.sheets.specs.Format.{link_bytes, link_size}
use Rattle.readers.specs.declared.cursor.Cursor.{Cursor}
use Rattle.readers.specs.Loads.{Loaded}
use Rattle.readers.specs.Records.{Linked, Reads}
use Rattle.readers.specs.Steps.{Stands}
use Rattle.readers.proofs.Pieces.{bytes_join}

-- the first k links were added
pub record Filling {W : Type 0} (g : Ghosts W) (bs : List ℕ) (k : ℕ) (c : Cursor) (total : ℕ) (before : Model W) (p : Plan W g) : Type 0 where
  pub stands : Stands bs (link_place g bs k) c
  pub sum : total ≡ total_in g bs k
  pub limited : total ≤ most_total
  pub codes : (model_of p).codes ≡ before.codes
  pub count : length (model_of p).links ≡ k
  pub sums : total_of g (model_of p).links ≡ total
  pub bytes : bytes_at bs (link_place g bs 0) (k * link_size g) ≡ flat_map (link_bytes g) (model_of p).links

all_left : {A : Type 0} (P : A → Type 0) (a b : List A) → AllByRecursion P (a ++ b) → AllByRecursion P a
all_left P [] b h = tt
all_left P (x ∷ a) b h = (h.0, all_left P a b h.1)

all_right : {A : Type 0} (P : A → Type 0) (a b : List A) → AllByRecursion P (a ++ b) → AllByRecursion P b
all_right P [] b h = h
all_right P (x ∷ a) b h = all_right P a b h.1

module _ {W : Type 0} (g : Ghosts W) (bs : List ℕ) where
  pub left_clear : (a b : List Field) → Faultless g bs (a ++ b) → Faultless g bs a
  left_clear a b h = all_left (λ f. fault_of g bs f ≡ None) a b h

  -- each run of fields among those without a fault
  pub clear_at : (f : ℕ → List Field) (n k : ℕ) → k < n → Faultless g bs (through f n) → Faultless g bs (f k)
  clear_at f zero k lt h = absurd (omega arith)
  clear_at f (suc n) k lt h =
      ⊎_elim
      (λ (l : k < n). clear_at f n k l (left_clear (through f n) (f n) h))
      (λ l. let s : k ≡ n = omega arith in rw s (all_right (λ x. fault_of g bs x ≡ None) (through f n) (f n) h))
      (cases_lt k n)

  pub filling_none : (c : Cursor) (p : Plan W g) → Stands bs (link_place g bs 0) c → (model_of p).links ≡ [] → Filling g bs 0 c 0 (model_of p) p
  filling_none c p s e = record {
    stands = s;
    sum = refl;
    limited = omega arith;
    codes = refl;
    count = ap length e;
    sums = ap (total_of g) e;
    bytes = ap (bytes_at bs (link_place g bs 0)) (zero-mul (link_size g)) ∙ sym (ap (flat_map (link_bytes g)) e);
  }

  module _ {k : ℕ} {c a : Cursor} {total : ℕ} {before : Model W} {p : Plan W g} {l : Link W} (was : Filling g bs k c total before p) (t : Reads g bs (link_fields g bs k) (Ok l) a (link_place g bs (k + 1)) (Linked g bs k)) where
    pub can_join : length before.codes ≡ units_in bs → Joins g (length (model_of p).codes) l
    can_join n = subst (λ x. Joins g x l) (sym (ap length was.codes ∙ n)) t.taken.1.joins

    pub has_room : total_of g (model_of p).links + amount_of g l.weight ≤ most_total
    has_room = let h = t.taken.1.limited in let s = was.sums in let e = was.sum in omega arith

    pub filling_more : (q : Plan W g) {amount : ℕ} → model_of q ≡ linked l (model_of p) → amount ≡ amount_of g l.weight → Filling g bs (k + 1) a (total + amount) before q
    filling_more q {amount} e is =
        let told = t.taken.1 in
        let ls = (model_of p).links in
        let s = link_size g in
        let links : (model_of q).links ≡ ls ++ (l ∷ []) = ap (λ m. m.links) e in
        let sum : total + amount ≡ total_in g bs k + amount_of g l.weight = let x = was.sum in omega arith in
        let size : (k + 1) * s ≡ k * s + s = let x = add-mul k 1 s in let y = one-mul s in omega arith in
        let here : link_place g bs 0 + k * s ≡ link_place g bs k = let x = zero-mul s in omega arith in
        record {
          stands = t.moved;
          sum = sum ∙ (ap (λ n. total_in g bs k + n) told.amount ∙ sym (ap (total_in g bs) (add-one k)));
          limited = let x = told.limited in omega arith;
          codes = ap (λ m. m.codes) e ∙ was.codes;
          count = ap length links ∙ (length_push ls l ∙ ap (λ n. n + 1) was.count);
          sums = let x = ap (total_of g) links in let y = total_append g ls (l ∷ []) in let z = was.sums in omega arith;
          bytes = ap (bytes_at bs (link_place g bs 0)) size
              ∙ (bytes_join bs (link_place g bs 0) (k * s) s
              ∙ (ap (λ x. bytes_at bs (link_place g bs 0) (k * s) ++ bytes_at bs x s) here
              ∙ (ap (λ x. bytes_at bs (link_place g bs 0) (k * s) ++ x) told.bytes
              ∙ (ap (λ x. x ++ link_bytes g l) was.bytes
              ∙ (flat_map_more (link_bytes g) [] ls l ∙ sym (ap (flat_map (link_bytes g)) links))))));
        }

  pub filled : (c : Cursor) (total : ℕ) (before : Model W) (p : Plan W g) → Filling g bs (links_in bs) c total before p → Loaded g bs before (model_of p)
  filled c total before p h = record { codes = h.codes; count = h.count; bytes = h.bytes }
