use Rattle.std.proofs.Common.{◌∙◌, length, ap, sym}
use Rattle.interpreter.specs.Buffers.Marks.{held_places, row_held}
use Rattle.interpreter.specs.CellRows.{number_told, told_value}
use Rattle.interpreter.specs.declared.cells.NumberKind.{NumberKind}
use Rattle.interpreter.proofs.buffers.held.put_cells.Goals as goal

pub returns-in-Bits-clause-set : goal.returns-in-Bits-clause-set
returns-in-Bits-clause-set c =
    let row = c.args.row.now in
    let h = held_places c.args.marks.now c.args.words.now c.args.wides.now.items in
    c.put_bits.ensures c.args.wides.now.items
    ∙ ap (λ (kind : NumberKind). row_held (λ k. told_value kind row.ty (number_told row.numbers.now k)) c.args.place h (length row.numbers.now)) (sym c.in-Bits.is)

pub returns-in-Exact-clause-set : goal.returns-in-Exact-clause-set
returns-in-Exact-clause-set c =
    let row = c.args.row.now in
    let h = held_places c.args.marks.now c.args.words.now c.args.wides.now.items in
    c.put_exact.ensures.set
    ∙ ap (λ (kind : NumberKind). row_held (λ k. told_value kind row.ty (number_told row.numbers.now k)) c.args.place h (length row.numbers.now)) (sym c.in-Exact.is)
