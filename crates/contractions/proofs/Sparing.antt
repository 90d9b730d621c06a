-- Memory that one step after another leaves as it was, and the work that goes on, one step after another.
use Rattle.std.proofs.Common.{◌≡◌, ℕ, ◌+◌, ◌-◌, ◌≤◌, List, drop, sym, refl, ap, ◌∙◌, subst, arith}
use Rattle.std.proofs.lemmas.List.{drop-drop}
use Rattle.cuts.specs.declared.entry.Entry.{Entry}
use Rattle.contractions.specs.declared.contraction.Contraction.{Contraction}
use Rattle.contractions.specs.Progress.{Spared}
use Rattle.contractions.specs.Working.{GoneOn}

drop_further : {X : Type 0} (a b : ℕ) (xs ys : List X) → a ≤ b → drop a xs ≡ drop a ys → drop b xs ≡ drop b ys
drop_further a b xs ys le same =
    let e : a + (b - a) ≡ b = omega arith in
    subst (λ k. drop k xs ≡ drop k ys) e (sym (drop-drop (b - a) a xs) ∙ ap (drop (b - a)) same ∙ drop-drop (b - a) a ys)

module _ {W : Type 0} (n : ℕ) where
  pub spared_none : (m : ℕ) (ws : List W) (ms : List ℕ) (es : List Entry) → Spared n m ws ws ms ms es es
  spared_none m ws ms es = record { weights = refl; marks = refl; entries = refl }

  -- one step and then another, with no fewer mergers
  pub spared_more : {k m : ℕ} {ws ws' ws'' : List W} {ms ms' ms'' : List ℕ} {es es' es'' : List Entry} → k ≤ m → Spared n k ws ws' ms ms' es es' → Spared n m ws' ws'' ms' ms'' es' es'' → Spared n m ws ws'' ms ms'' es es''
  spared_more {k} {m} le first next = record {
    weights = next.weights ∙ first.weights;
    marks = next.marks ∙ first.marks;
    entries = next.entries ∙ drop_further k m _ _ le first.entries;
  }

pub gone_on_then : {W : Type 0} {a b c : Contraction W} → GoneOn a b → GoneOn b c → GoneOn a c
gone_on_then first next = record {
  lies = record { weights = next.lies.weights ∙ first.lies.weights; marks = next.lies.marks ∙ first.lies.marks; entries = next.lies.entries ∙ first.lies.entries };
  units = next.units ∙ first.units;
  mergers = omega arith;
  scans = omega arith;
  spared =
      let later = rw first.units at next.spared in
      record {
        weights = later.weights ∙ first.spared.weights;
        marks = later.marks ∙ first.spared.marks;
        entries = later.entries ∙ drop_further _ _ _ _ next.mergers first.spared.entries;
      };
}
