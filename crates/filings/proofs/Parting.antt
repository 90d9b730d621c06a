-- The links of a plan, parted at one of them.
use Rattle.std.proofs.Common.{◌≡◌, ℕ, zero, suc, ◌<◌, List, [], ◌∷◌, ◌++◌, length, get_or, sym, refl, ap, arith}
use Rattle.std.specs.List.{remove}
use Rattle.plans.specs.declared.plan.Link.{Link}
use Rattle.plans.specs.Model.{changed}
use Rattle.filings.specs.declared.kept.Edit.{Edit}
use Rattle.filings.specs.Edits.{outlives, outlive_at}

pub record Parted {W : Type 0} (ls : List (Link W)) (k : ℕ) : Type 0 where
  pub front : List (Link W)
  pub here : Link W
  pub back : List (Link W)
  pub all : ls ≡ front ++ (here ∷ back)
  pub less : remove ls k ≡ front ++ back
  pub new : (f : Link W → Link W) → changed k f ls ≡ front ++ (f here ∷ back)
  pub stay : (sides : List ℕ) (edit : Link W → Edit) → outlive_at sides edit ls k ≡ outlives sides (edit here)

pub parted : {W : Type 0} (ls : List (Link W)) (k : ℕ) → k < length ls → Parted ls k
parted [] k h = absurd (omega arith)
parted (l ∷ ls) zero h = record { front = []; here = l; back = ls; all = refl; less = refl; new = λ f. refl; stay = λ sides edit. refl }
parted {W} (l ∷ ls) (suc k) h =
    let p = parted ls k (omega arith) in
    record {
      front = l ∷ p.front;
      here = p.here;
      back = p.back;
      all = ap (λ (xs : List (Link W)). l ∷ xs) p.all;
      less = ap (λ (xs : List (Link W)). l ∷ xs) p.less;
      new = λ f. ap (λ (xs : List (Link W)). l ∷ xs) (p.new f);
      stay = p.stay;
    }

-- the edit of the link that stands at k
pub outlive_at_lem : {W : Type 0} (sides : List ℕ) (edit : Link W → Edit) (ls : List (Link W)) (k : ℕ) (l : Link W) → k < length ls → l ≡ get_or ls k l → outlive_at sides edit ls k ≡ outlives sides (edit l)
outlive_at_lem sides edit [] k l h is = absurd (omega arith)
outlive_at_lem sides edit (x ∷ ls) zero l h is = ap (λ y. outlives sides (edit y)) (sym is)
outlive_at_lem sides edit (x ∷ ls) (suc k) l h is = outlive_at_lem sides edit ls k l (omega arith) is
