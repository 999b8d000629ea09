use Rattle.std.proofs.Common.{◌≡◌, ◌<◌, ℕ, length, arith, pos}
use Rattle.numeric.specs.Apply.{apply}
use Rattle.numeric.specs.Wrap.{wrap}
use Rattle.interpreter.specs.Evaluation.Words.{word_at}
use Rattle.interpreter.proofs.EachWord.{words_next}
use Rattle.interpreter.proofs.evaluation.kernels.apply_each_to.Goals as goal

pub loop-turn-preserved : goal.loop-turn-preserved
loop-turn-preserved g c =
    let l = c.loop-turn in
    let ty = g.W.Width.ty in
    let P : ℕ → ℕ → Type 0 = λ k w. wrap ty (pos w) ≡ apply g.O.Operator.op ty c.args.left.value (word_at ty c.args.right.now k) in
    let lt : l.turn < length l.out = omega arith in
    words_next P l.turn c.args.out.now l.out _ lt l.invariant c.applied_to_word.ensures
