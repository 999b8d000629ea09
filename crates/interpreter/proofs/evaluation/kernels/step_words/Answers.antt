use Rattle.std.proofs.Common.{◌≡◌, ◌<◌, ℕ, length, arith, pos, ◌+ℤ◌, ◌*ℤ◌}
use Rattle.numeric.specs.Wrap.{wrap}
use Rattle.interpreter.proofs.EachWord.{words_next}
use Rattle.interpreter.proofs.evaluation.kernels.step_words.Goals as goal

pub loop-turn-preserved : goal.loop-turn-preserved
loop-turn-preserved c =
    let l = c.loop-turn in
    let P : ℕ → ℕ → Type 0 = λ k w. wrap c.args.ty (pos w) ≡ c.args.first.value +ℤ c.args.step.value *ℤ pos k in
    let lt : l.turn < length l.out = omega arith in
    words_next P l.turn c.args.out.now l.out _ lt l.invariant c.in_ok-out.ensures
