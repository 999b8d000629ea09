use Rattle.std.proofs.Common.{◌∙◌, slice_set}
use Rattle.interpreter.specs.Buffers.Marks.{held_places}
use Rattle.interpreter.proofs.HeldPlaces.{held_word}
use Rattle.interpreter.proofs.buffers.held.put_word.Goals as goal

pub returns : goal.returns
returns c = λ zs.
    let ms = c.args.marks.now in
    let ws = c.args.words.now in
    let n = c.args.place in
    (λ i. held_places (slice_set ms n (c.narrow_mark.ensures i)) (slice_set ws n c.args.word) zs) ∙ held_word ms ws zs n c.args.ty c.args.word c.requires.words
