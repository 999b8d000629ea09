use Rattle.std.proofs.Common.{◌∙◌, length, ap}
use Rattle.numeric.proofs.Wraps.{wrap_of_value}
use Rattle.tree.specs.Meaning.{typed}
use Rattle.interpreter.specs.Buffers.Marks.{held_places}
use Rattle.interpreter.specs.CellRows.{number_told, told_value}
use Rattle.interpreter.specs.declared.cells.NumberKind.TheVariants.{Bits, Exact}
use Rattle.interpreter.proofs.HeldPlaces.{row_same}
use Rattle.interpreter.proofs.buffers.held.put_exact.Goals as goal

pub returns-then-are_within-clause-set : goal.returns-then-are_within-clause-set
returns-then-are_within-clause-set c =
    let t = c.args.ty in
    let ns = c.args.numbers.now in
    let h = held_places c.args.marks.now c.args.words.now c.args.wides.now.items in
    c.put_bits.ensures c.args.wides.now.items
    ∙ row_same (λ k. told_value Bits t (number_told ns k)) (λ k. told_value Exact t (number_told ns k)) c.args.place h (length ns)
    (λ k lt. ap (typed t) (wrap_of_value t (number_told ns k) (c.if-are_within.ensures k lt)))
