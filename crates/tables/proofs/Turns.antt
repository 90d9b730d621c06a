-- The turns of the loop that adds one row to another.
use Rattle.std.proofs.Common.{◌≡◌, ℕ, ◌+◌, ◌*◌, ◌<◌, ◌≤◌, true, false, not, ◌&&◌, ◌||◌, eqb, List, [], ◌∷◌, ◌++◌, length, get_or, drop, set, sym, refl, ◌∙◌, subst₂, arith}
use Rattle.std.proofs.lemmas.Bool.{and_parts}
use Rattle.std.proofs.lemmas.Bool.Decides.{nat_tests}
use Rattle.weights.specs.Laws.{limit}
use Rattle.weights.specs.declared.weight.Weight.{Ghosts}
use Rattle.cuts.specs.declared.entry.Entry.{Entry}
use Rattle.cuts.specs.declared.ground.Ground.{Ground}
use Rattle.cuts.specs.declared.ground.Ground.TheVariants.{Heavy}
use Rattle.cuts.specs.Kinds.{Lawful, kind_of}
use Rattle.cuts.specs.Links.{Link}
use Rattle.cuts.specs.Groups.{stands}
use Rattle.tables.specs.declared.groups.Groups.{Groups}
use Rattle.tables.specs.Meaning.{at, Holds, Explains}
use Rattle.tables.proofs.Mergers.{Kept, Midway, Third, written, written_rest, kept_none, kept_skip, kept_more, mid_none, mid_skip, both_fit, sum_fits, mid_more, mid_all}

abbrev pub merger : ℕ → ℕ → Ground → ℕ → Entry
merger low high ground scan = record { low = low; high = high; ground = ground; scan = scan }

module _ {W : Type 0} (g : Ghosts W) (n low high : ℕ) (old : List W) (groups : Groups) where
  -- what holds when the groups below w have been added, and sum is what was added up
  pub record Merging (table : List W) (w : ℕ) (sum : W) : Type 0 where
    pub rest : drop (n * n) table ≡ drop (n * n) old
    pub kept : Kept g n low old table w
    pub mid : (ls : List (Link g.Value)) (es : List Entry) (ground : Ground) (scan : ℕ) → Explains g n ls es old groups → stands n es low ≡ true → stands n es high ≡ true → low < high → Midway g n ls es (merger low high ground scan) table w sum

  module _ (laws : Lawful (kind_of g)) where
    pub merging_none : (sum : W) → g.value sum ≡ g.zero → Merging old 0 sum
    merging_none sum is = record {
      rest = refl;
      kept = kept_none g n low old;
      mid = λ ls es ground scan ex sl sh less. mid_none g n ls es (merger low high ground scan) laws ex.sound ex.joins sl sh less old sum is;
    }

    pub merging_skip : (table : List W) (w : ℕ) (sum : W) → w < n → (get_or groups.standing w false && not (eqb w low || eqb w high)) ≡ false → Merging table w sum → Merging table (w + 1) sum
    merging_skip table w sum lt passed m = record {
      rest = m.rest;
      kept = kept_skip g n low old table w m.kept;
      mid = λ ls es ground scan ex sl sh less. mid_skip g n ls es (merger low high ground scan) laws ex.sound ex.joins sl sh less table w sum (out ls es ground scan ex) (m.mid ls es ground scan ex sl sh less);
    }
      where
        out : (ls : List (Link g.Value)) (es : List Entry) (ground : Ground) (scan : ℕ) → Explains g n ls es old groups → Third n es (merger low high ground scan) w → ⊥
        out ls es ground scan ex third = let up = ex.tracks.standing w lt ∙ third.0 in let no = third.1 in let neither = third.2 in grind (arith, nat_tests)

    -- a group that stands and is neither of the two
    module _ (table : List W) (w : ℕ) (sum : W) (lt : w < n) (here : (get_or groups.standing w false && not (eqb w low || eqb w high)) ≡ true) (m : Merging table w sum) where
      third : (ls : List (Link g.Value)) (es : List Entry) (ground : Ground) (scan : ℕ) → Explains g n ls es old groups → Third n es (merger low high ground scan) w
      third ls es ground scan ex = (sym (ex.tracks.standing w lt) ∙ (and_parts _ _ here).0, (λ i. grind (arith, nat_tests, here)), (λ i. grind (arith, nat_tests, here)))

      -- its two joint weights can be added
      pub merging_both : (ls : List (Link g.Value)) (es : List Entry) → Explains g n ls es old groups → stands n es low ≡ true → stands n es high ≡ true → low < high → g.size (at g table n low w) + g.size (at g table n high w) ≤ limit
      merging_both ls es ex sl sh less = both_fit g n ls es (merger low high Heavy 0) laws ex.sound ex.joins sl sh less old table ex.holds w m.kept (third ls es Heavy 0 ex)

      module _ (both : W) (is : g.size (at g table n low w) + g.size (at g table n high w) ≤ limit → g.value both ≡ g.plus (at g table n low w) (at g table n high w)) where
        -- and so can what they come to, to what was added up
        pub merging_sum : (ls : List (Link g.Value)) (es : List Entry) → Explains g n ls es old groups → stands n es low ≡ true → stands n es high ≡ true → low < high → g.size (g.value sum) + g.size (g.value both) ≤ limit
        merging_sum ls es ex sl sh less = sum_fits g n ls es (merger low high Heavy 0) laws ex.sound ex.joins sl sh less old table ex.holds w m.kept (third ls es Heavy 0 ex) sum both (m.mid ls es Heavy 0 ex sl sh less) (is (merging_both ls es ex sl sh less))

        pub merging_more : (next : W) → low < n → n * n ≤ length table → (g.size (g.value sum) + g.size (g.value both) ≤ limit → g.value next ≡ g.plus (g.value sum) (g.value both)) → Merging (written table n low w both) (w + 1) next
        merging_more next lu size grown = record {
          rest = written_rest g n low old table w both lu lt ∙ m.rest;
          kept = kept_more g n low old table w both lu lt m.kept;
          mid = λ ls es ground scan ex sl sh less.
              mid_more g n ls es (merger low high ground scan) laws ex.sound ex.joins sl sh less old table ex.holds w m.kept (third ls es ground scan ex) sum both (m.mid ls es ground scan ex sl sh less)
              (is (merging_both ls es ex sl sh less)) next size (grown (merging_sum ls es ex sl sh less));
        }

    -- at the end, with the degree of the merged group written
    pub merging_all : (table : List W) (sum : W) → n * n ≤ length table → Merging table n sum
        → (ls : List (Link g.Value)) (es : List Entry) (e : Entry) → Explains g n ls es old groups → stands n es low ≡ true → stands n es high ≡ true → low < high → e.low ≡ low → e.high ≡ high
        → Holds g n ls (es ++ (e ∷ [])) (set table (low * n + low) sum)
    merging_all table sum size m ls es e ex sl sh less el eh =
        subst₂ (λ l h. Holds g n ls (es ++ (merger l h e.ground e.scan ∷ [])) (set table (low * n + low) sum)) (sym el) (sym eh)
        (mid_all g n ls es (merger low high e.ground e.scan) laws ex.sound ex.joins sl sh less old table sum ex.holds m.kept (m.mid ls es e.ground e.scan ex sl sh less) size)
