use Rattle.std.proofs.Common.{ℕ, slice_index_or, sym, ap, ◌∙◌}
use Rattle.interpreter.specs.Buffers.Marks.{held_by}
use Rattle.interpreter.specs.Evaluation.Lanes.{number_at}
use Rattle.interpreter.specs.Evaluation.Lending.{lent}
use Rattle.interpreter.specs.declared.buffers.marks.Mark.TheVariants.{Unset}
use Rattle.interpreter.proofs.HeldPlaces.{held_get}
use Rattle.interpreter.proofs.buffers.held.place_held.Goals as goal

pub returns : goal.returns
returns c =
    let held = c.args.held in
    let ms = held.marks.now in
    let zs = held.wides.now in
    let n = c.args.place in
    c.held_by.ensures ∙ ap (λ (w : ℕ). held_by (slice_index_or ms n Unset) w (number_at zs n)) c.bits_there.ensures ∙ sym (held_get ms (lent held.numbers) zs n)
