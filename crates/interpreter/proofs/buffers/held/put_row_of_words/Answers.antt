use Rattle.std.proofs.Common.{◌+◌, ◌≤◌, length, ap, ◌∙◌, arith}
use Rattle.interpreter.specs.Buffers.Marks.{held_places}
use Rattle.interpreter.specs.Buffers.SetRows.{set_row}
use Rattle.interpreter.specs.declared.buffers.marks.Mark.{Mark}
use Rattle.interpreter.proofs.SetRows.{row_marked}
use Rattle.interpreter.proofs.buffers.held.put_row_of_words.Goals as goal

pub returns : goal.returns
returns c = λ zs.
    let from = c.args.from.now in
    let place = c.args.place in
    let marks = c.args.marks.now in
    let words = c.args.words.now in
    let inside : place + length from ≤ length words = omega (arith, c.requires.places, c.requires.words) in
    (λ i. held_places ((c.mark_row.ensures ∙ ap (λ (m : Mark). set_row (λ k. m) place marks (length from)) c.narrow_mark.ensures) i) (c.copy_row.ensures i) zs)
    ∙ row_marked c.args.ty from place marks words zs (length from) inside
