use Rattle.std.proofs.Common.{◌≡◌, ◌<◌, ℕ, length, arith, pos}
use Rattle.numeric.specs.declared.ty.Ty.{Ty}
use Rattle.numeric.specs.Wrap.{wrap}
use Rattle.interpreter.specs.Evaluation.Lanes.{number_at}
use Rattle.interpreter.proofs.EachWord.{words_next}
use Rattle.interpreter.proofs.evaluation.kernels.low_words.Goals as goal

pub loop-turn-preserved : goal.loop-turn-preserved
loop-turn-preserved c =
    let l = c.loop-turn in
    let P : ℕ → ℕ → Type 0 = λ k w. (t : Ty) → wrap t (pos w) ≡ wrap t (number_at c.args.numbers.now k) in
    let lt : l.turn < length l.out = omega arith in
    words_next P l.turn c.args.out.now l.out _ lt l.invariant c.low_word.ensures.wraps
