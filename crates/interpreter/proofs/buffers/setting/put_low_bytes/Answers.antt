use Rattle.std.proofs.Common.{◌≡◌, ◌+◌, suc, ℤ, Some, ap, ◌∙◌, arith, rules, slice_set, w64, SFits}
use Rattle.std.proofs.lemmas.Int.{to_z-of_z}
use Rattle.numeric.specs.declared.ty.Ty.TheVariants.{U8}
use Rattle.numeric.specs.Wrap.{wrap}
use Rattle.tree.specs.Meaning.{typed}
use Rattle.interpreter.specs.Buffers.Marks.{held_places, row_held}
use Rattle.interpreter.specs.CellRows.{number_told, told_value}
use Rattle.interpreter.specs.declared.cells.NumberKind.TheVariants.{Bits}
use Rattle.interpreter.proofs.buffers.setting.put_low_bytes.Goals as goal

pub loop-turn-preserved : goal.loop-turn-preserved
loop-turn-preserved c = λ zs.
    let l = c.loop-turn in
    let y : ℤ = number_told c.args.numbers.now l.turn in
    let f : SFits w64 y = search rules in
    let more : suc l.turn ≡ l.turn + 1 = omega arith in
    c.set_byte.ensures zs
    ∙ (λ i. slice_set (l.invariant zs i) (c.place_behind.ensures i) (Some (typed U8 (wrap U8 (to_z-of_z w64 y f i)))))
    ∙ ap (row_held (λ k. told_value Bits U8 (number_told c.args.numbers.now k)) c.args.place (held_places c.args.marks.now c.args.bytes.now zs)) more
