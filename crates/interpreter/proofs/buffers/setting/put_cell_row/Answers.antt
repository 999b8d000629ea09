use Rattle.std.proofs.Common.{◌≡◌, ◌∙◌, length, arith, rules}
use Rattle.std.specs.Vec.{with_items}
use Rattle.std.proofs.lemmas.Grind.{common_steps}
use Rattle.numeric.specs.declared.ty.Ty.TheVariants.{U8}
use Rattle.interpreter.specs.Buffers.Marks.{held_places, row_held}
use Rattle.interpreter.specs.Buffers.PlaceBits.{bits_of}
use Rattle.interpreter.specs.CellRows.{number_told, row_value, told_value}
use Rattle.interpreter.specs.declared.cells.NumberKind.TheVariants.{Bits}
use Rattle.interpreter.proofs.HeldPlaces.{row_same}
use Rattle.interpreter.proofs.buffers.setting.put_cell_row.Goals as goal

pub returns-in-Byte-clause-set : goal.returns-in-Byte-clause-set
returns-in-Byte-clause-set c =
    let old = c.args.bits.now in
    let zs = c.args.wides.now.items in
    let numbers = c.args.row.now.numbers.now in
    let h = held_places c.args.marks.now (bits_of old) zs in
    let set : held_places c.put_low_bytes.new.marks (bits_of (record { size = old.size; bytes = with_items old.bytes c.put_low_bytes.new.bytes; words = old.words })) zs
    ≡ row_held (λ k. told_value Bits U8 (number_told numbers k)) c.args.place h (length numbers) = first_of (search rules, grind (arith, common_steps)) in
    set ∙ row_same (λ k. told_value Bits U8 (number_told numbers k)) (row_value c.args.row.now) c.args.place h (length numbers) c.if-are_bytes.ensures
