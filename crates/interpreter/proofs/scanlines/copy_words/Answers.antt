use Rattle.std.proofs.Common.{◌<◌, ℕ, length, pos, ap, ◌∙◌, arith, Some}
use Rattle.numeric.specs.Wrap.{wrap}
use Rattle.interpreter.specs.Evaluation.Lending.{lent}
use Rattle.interpreter.specs.Evaluation.Words.{word_at}
use Rattle.interpreter.proofs.HeldPlaces.{marked_along}
use Rattle.interpreter.proofs.scanlines.copy_words.Goals as goal

pub returns : goal.returns
returns c = λ k lt.
    let held = c.args.held in
    let inside : k < length held.marks.now = omega (arith, lt, c.requires.marks) in
    marked_along held.marks.now (lent held.numbers) held.wides.now k c.args.ty (word_at c.args.ty c.copy_bits.new.out k)
    (c.if-not-are_marked.ensures k inside ∙ ap Some c.narrow_mark.ensures) (ap (λ (w : ℕ). wrap c.args.ty (pos w)) (c.copy_bits.ensures k lt))
