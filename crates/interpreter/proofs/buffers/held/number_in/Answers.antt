use Rattle.std.proofs.Common.{◌≡◌, Some, sym, ap, ◌∙◌, rules, arith, slice_index_or, ℤ}
use Rattle.std.proofs.lemmas.Grind.{common_steps}
use Rattle.tree.specs.Meaning.{typed}
use Rattle.interpreter.specs.Buffers.Marks.{narrow_mark}
use Rattle.interpreter.specs.declared.buffers.marks.Mark.TheVariants.{Unset}
use Rattle.interpreter.proofs.HeldPlaces.{marked_held}
use Rattle.interpreter.proofs.buffers.held.number_in.Goals as goal

pub returns-then-eq : goal.returns-then-eq
returns-then-eq g c = λ zs.
    let ms = c.args.marks.now in
    let n = c.args.place in
    let t = g.W.Width.ty in
    let same : slice_index_or ms n Unset ≡ c.narrow_mark.result = first_of (search rules, cc, grind (arith, common_steps)) in
    marked_held ms c.args.words.now zs n t (same ∙ c.narrow_mark.ensures ∙ ap narrow_mark c.kind.ensures)
    ∙ ap (λ (z : ℤ). Some (typed t z)) (sym c.word_number.ensures.is)
