use Rattle.std.proofs.Common.{◌≡◌, [], ◌∷◌, ◌++◌, sym, refl, ◌∙◌, subst, subst₂, arith}
use Rattle.tables.specs.Meaning.{Explains, Holds, Tracks}
use Rattle.contractions.proofs.Merging.{at_merged}
use Rattle.contractions.proofs.contraction.Contraction.merge.Goals as goal

pub returns-clause-at : goal.returns-clause-at
returns-clause-at g c = λ n ls p was low high less.
    let W = g.W.Weight in
    let e = c.args.merger in
    let es = p.done ++ (e ∷ []) in
    let only = c.note_best.ensures.only in
    let rows : c.over.result.units ≡ n = c.over.ensures.units ∙ c.units.ensures ∙ was.explains.tracks.units in
    let explains = subst₂ (λ m t. Explains W m ls p.done t c.args.self.now.groups) (sym rows) (sym c.over.ensures.entries) was.explains in
    let holds : Holds W n ls es c.note_best.new.self.weights.now = subst₂ (λ m t. Holds W m ls es t) (c.merge_rows.ensures.memory.0 ∙ rows) (grind arith) (c.merge_rows.ensures.holds ls p.done e explains (rw rows low) (rw rows high) less refl refl) in
    let tracks = subst (Tracks n es) (sym only.groups) (c.join.ensures.tracks n p.done e was.explains.joins low high less refl refl was.explains.tracks) in
    let kept = rw tracks.units at c.note_best.ensures.kept in
    let lighter = rw tracks.units at c.note_best.ensures.lighter in
    rw (only.entries, only.mergers, only.scans)
    (at_merged W n ls p e _ _ _ _ _ _ _ was low high less holds tracks (omega arith) _ _ refl refl kept lighter)
