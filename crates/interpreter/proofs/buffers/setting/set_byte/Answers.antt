use Rattle.std.proofs.Common.{◌≡◌, ℕ, ℤ, Some, ap, ◌∙◌, slice_set, pos, w64}
use Rattle.std.proofs.lemmas.Int.{to_z-of_z}
use Rattle.numeric.specs.declared.ty.Ty.TheVariants.{U8}
use Rattle.numeric.specs.Wrap.{wrap}
use Rattle.tree.specs.Meaning.{typed}
use Rattle.interpreter.specs.Buffers.Marks.{held_places}
use Rattle.interpreter.proofs.HeldPlaces.{held_word}
use Rattle.interpreter.proofs.Words.{wrap_of_byte}
use Rattle.interpreter.proofs.buffers.setting.set_byte.Goals as goal

pub returns : goal.returns
returns c = λ zs.
    let ms = c.args.marks.now in
    let bs = c.args.bytes.now in
    let n = c.args.place in
    let is : wrap U8 (pos c.low_byte.result) ≡ wrap U8 c.args.number =
    ap (λ (b : ℕ). wrap U8 (pos b)) c.low_byte.ensures ∙ wrap_of_byte c.low_word.result ∙ c.low_word.ensures.wraps U8 ∙ ap (wrap U8) (to_z-of_z w64 c.args.number c.ranges.number) in
    held_word ms bs zs n U8 c.low_byte.result c.requires.bytes ∙ ap (λ (z : ℤ). slice_set (held_places ms bs zs) n (Some (typed U8 z))) is
