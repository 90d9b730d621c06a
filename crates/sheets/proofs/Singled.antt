-- A sheet is that of one plan only.
use Rattle.std.proofs.Common.{◌≡◌, ℕ, ◌+◌, ◌*◌, ◌^◌, ◌<◌, Bool, true, false, cond, length, get_or, sym, refl, ap, ◌∙◌, ap₂, arith}
use Rattle.std.proofs.lemmas.List.{same_lists, take_all}
use Rattle.weights.specs.declared.weight.Weight.{Ghosts}
use Rattle.weights.specs.Laws.{Exact}
use Rattle.plans.specs.declared.plan.Link.{Link}
use Rattle.plans.specs.Model.{Model}
use Rattle.sheets.specs.declared.issue.Issue.{Issue}
use Rattle.sheets.specs.Fields.{bytes_at, issue_in, link_place, links_in, texts_in, units_in}
use Rattle.sheets.specs.Format.{Valid, four, fours, link_bytes, link_size, sheet_of}
use Rattle.sheets.proofs.Seen.{fours_at, four_digits, issue_seen, links_seen, link_seen, texts_seen}

marks_told : (a b : Bool) → ◌≡◌ {A = ℕ} (cond a 1 0) (cond b 1 0) → a ≡ b
marks_told true true e = refl
marks_told true false e = absurd (omega arith)
marks_told false true e = absurd (omega arith)
marks_told false false e = refl

fours_told : (f h : ℕ → ℕ) (n : ℕ) → ((j : ℕ) → f j < 2 ^ 32) → ((j : ℕ) → h j < 2 ^ 32) → fours f n ≡ fours h n → (j : ℕ) → j < n → f j ≡ h j
fours_told f h n small low e j lt =
    let digit : (r : ℕ) → r < 4 → get_or (four (f j)) r 0 ≡ get_or (four (h j)) r 0 = λ r s. sym (fours_at f n j r lt s) ∙ (ap (λ xs. get_or xs (4 * j + r) 0) e ∙ fours_at h n j r lt s) in
    let a = digit 0 (omega arith) in
    let b = digit 1 (omega arith) in
    let c = digit 2 (omega arith) in
    let d = digit 3 (omega arith) in
    let x = four_digits (f j) (small j) in
    let y = four_digits (h j) (low j) in
    omega arith

module _ {W : Type 0} (g : Ghosts W) (exact : Exact g.PARTS g.of g.nth) (narrow : (x : W) (j : ℕ) → g.nth (g.value x) j < 2 ^ 32) (told : (x y : W) → g.value x ≡ g.value y → x ≡ y) where
  link_told : (l k : Link W) → link_bytes g l ≡ link_bytes g k → l ≡ k
  link_told l k e =
      let a : l.first ≡ k.first = cc in
      let b : l.second ≡ k.second = cc in
      let c : ◌≡◌ {A = ℕ} (cond l.in_service 1 0) (cond k.in_service 1 0) = cc in
      let d : fours (g.nth (g.value l.weight)) g.PARTS ≡ fours (g.nth (g.value k.weight)) g.PARTS = cc in
      let s = marks_told l.in_service k.in_service c in
      let parts = fours_told (g.nth (g.value l.weight)) (g.nth (g.value k.weight)) g.PARTS (narrow l.weight) (narrow k.weight) d in
      let w = told l.weight k.weight (sym (exact.back (g.value l.weight)) ∙ (exact.same _ _ parts ∙ exact.back (g.value k.weight))) in
      ap₂ (λ x y. record { first = x; second = y; in_service = l.in_service; weight = l.weight }) a b
      ∙ ap₂ (λ x y. record { first = k.first; second = k.second; in_service = x; weight = y }) s w

  pub sheet_told : (i j : Issue) (m n : Model W) → Valid g i m → Valid g j n → sheet_of g i m ≡ sheet_of g j n → (i ≡ j) × (m ≡ n)
  sheet_told i j m n v u e =
      let codes : m.codes ≡ n.codes =
      sym (take_all (length m.codes) m.codes (omega arith))
      ∙ (sym (texts_seen g i m v (length m.codes) (omega arith))
      ∙ (ap (λ s. texts_in s (units_in s)) e
      ∙ (texts_seen g j n u (length n.codes) (omega arith) ∙ take_all (length n.codes) n.codes (omega arith)))) in
      let count : length m.links ≡ length n.links = sym (links_seen g i m v) ∙ (ap links_in e ∙ links_seen g j n u) in
      let links : m.links ≡ n.links = same_lists m.links n.links count (λ k d lt.
      link_told (get_or m.links k d) (get_or n.links k d)
      (sym (link_seen g i m v k d lt) ∙ (ap (λ s. bytes_at s (link_place g s k) (link_size g)) e ∙ link_seen g j n u k d (omega arith)))) in
      (sym (issue_seen g i m v) ∙ (ap issue_in e ∙ issue_seen g j n u), ap₂ (λ cs ls. record { codes = cs; links = ls }) codes links)
