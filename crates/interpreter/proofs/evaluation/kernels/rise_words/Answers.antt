use Rattle.std.proofs.Common.{◌≡◌, ◌<◌, ℕ, length, arith, pos, ap, ◌∙◌, ◌+ℤ◌}
use Rattle.numeric.specs.declared.ty.Ty.{Ty}
use Rattle.numeric.specs.Wrap.{wrap}
use Rattle.interpreter.proofs.EachWord.{words_next}
use Rattle.interpreter.proofs.evaluation.kernels.rise_words.Goals as goal

pub loop-turn-preserved : goal.loop-turn-preserved
loop-turn-preserved c =
    let l = c.loop-turn in
    let P : ℕ → ℕ → Type 0 = λ k w. (t : Ty) → wrap t (pos w) ≡ wrap t (c.args.first.value +ℤ pos k) in
    let lt : l.turn < length l.out = omega arith in
    words_next P l.turn c.args.out.now l.out _ lt l.invariant (λ t. c.low_word.ensures.wraps t ∙ ap (wrap t) c.risen.ensures)
