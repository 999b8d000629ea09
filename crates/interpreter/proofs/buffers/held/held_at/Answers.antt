use Rattle.std.proofs.Common.{ℕ, slice_index_or, sym, ap, ◌∙◌}
use Rattle.interpreter.specs.Buffers.Marks.{held_by}
use Rattle.interpreter.specs.Evaluation.Lanes.{number_at}
use Rattle.interpreter.specs.declared.buffers.marks.Mark.TheVariants.{Unset}
use Rattle.interpreter.proofs.HeldPlaces.{held_get}
use Rattle.interpreter.proofs.buffers.held.held_at.Goals as goal

pub returns : goal.returns
returns c =
    let ms = c.args.marks.now in
    let zs = c.args.wides.now in
    let n = c.args.place in
    c.held_by.ensures ∙ ap (λ (w : ℕ). held_by (slice_index_or ms n Unset) w (number_at zs n)) c.word_there.ensures ∙ sym (held_get ms c.args.words.now zs n)
