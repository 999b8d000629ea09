use Rattle.std.proofs.Common.{◌∙◌, ◌+◌, ◌≤◌, length, arith}
use Rattle.interpreter.specs.Buffers.Marks.{held_places}
use Rattle.interpreter.proofs.SetRows.{row_of_bytes}
use Rattle.interpreter.proofs.buffers.setting.put_row_of_bytes.Goals as goal

pub returns : goal.returns
returns c = λ zs.
    let from = c.args.from.now in
    let place = c.args.place in
    let bytes = c.args.bytes.now in
    let inside : place + length from ≤ length bytes = omega (arith, c.requires.places, c.requires.bytes) in
    (λ i. held_places (c.mark_row.ensures i) (c.copy_narrowed.ensures i) zs) ∙ row_of_bytes from place c.args.marks.now bytes zs (length from) inside
