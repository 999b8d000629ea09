use Rattle.std.proofs.Common.{◌≡◌, ◌<◌, ℕ, length, arith, pos, ap, ◌∙◌}
use Rattle.numeric.specs.declared.ty.Ty.{Ty}
use Rattle.numeric.specs.declared.op.Op.TheVariants.{Mul}
use Rattle.numeric.specs.Apply.{apply}
use Rattle.numeric.specs.Wrap.{wrap}
use Rattle.interpreter.specs.Evaluation.Words.{bits_at, word_at}
use Rattle.interpreter.proofs.EachWord.{words_next}
use Rattle.interpreter.proofs.evaluation.residue_kernels.square_each.Goals as goal

pub loop-turn-preserved : goal.loop-turn-preserved
loop-turn-preserved c =
    let l = c.loop-turn in
    let old = c.args.out.now in
    let P : ℕ → ℕ → Type 0 = λ k w. (t : Ty) → wrap t (pos w) ≡ apply Mul t (word_at t old k) (word_at t old k) in
    let lt : l.turn < length l.out = omega arith in
    let same : bits_at l.out l.turn ≡ bits_at old l.turn = l.invariant.later l.turn (omega arith) in
    words_next P l.turn old l.out _ lt l.invariant (λ t. c.squared_word.ensures t ∙ ap (λ (b : ℕ). apply Mul t (wrap t (pos b)) (wrap t (pos b))) same)
