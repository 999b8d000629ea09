use Rattle.std.proofs.Common.{◌^◌, ℤ, Some, ap, ◌∙◌, slice_set, pos, w64}
use Rattle.std.specs.Int.{int_rem_euclid}
use Rattle.std.proofs.lemmas.Int.{to_z-of_z}
use Rattle.tree.specs.Meaning.{typed}
use Rattle.interpreter.specs.Buffers.Marks.{held_places}
use Rattle.interpreter.proofs.Words.{wrap_of_word}
use Rattle.interpreter.proofs.buffers.held.set_word.Goals as goal

pub returns : goal.returns
returns c = λ zs.
    let h = held_places c.args.marks.now c.args.words.now zs in
    let low = c.low_word.ensures.bits ∙ ap (λ (z : ℤ). int_rem_euclid z (pos (2 ^ 32))) (to_z-of_z w64 c.args.number c.ranges.number) in
    c.put_word.ensures zs ∙ ap (λ (z : ℤ). slice_set h c.args.place (Some (typed c.args.ty z))) (wrap_of_word c.args.ty c.args.number c.low_word.result low)
