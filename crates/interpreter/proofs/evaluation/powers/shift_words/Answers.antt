use Rattle.std.proofs.Common.{◌≡◌, ◌<◌, ◌^◌, ℕ, length, arith, pos, ap, ◌∙◌}
use Rattle.numeric.specs.Apply.{apply}
use Rattle.numeric.specs.declared.op.Op.TheVariants.{Div}
use Rattle.numeric.specs.declared.ty.Ty.TheVariants.{U32}
use Rattle.numeric.specs.Wrap.{wrap}
use Rattle.interpreter.specs.Evaluation.Words.{bits_at, word_at}
use Rattle.interpreter.proofs.EachWord.{words_next}
use Rattle.interpreter.proofs.evaluation.powers.shift_words.Goals as goal

pub loop-turn-preserved : goal.loop-turn-preserved
loop-turn-preserved c =
    let l = c.loop-turn in
    let P : ℕ → ℕ → Type 0 = λ k w. wrap U32 (pos w) ≡ apply Div U32 (word_at U32 c.args.out.now k) (pos (2 ^ c.args.exponent)) in
    let lt : l.turn < length l.out = omega arith in
    let same : bits_at l.out l.turn ≡ bits_at c.args.out.now l.turn = l.invariant.later l.turn (omega arith) in
    words_next P l.turn c.args.out.now l.out _ lt l.invariant (c.shifted_word.ensures ∙ ap (λ (b : ℕ). apply Div U32 (wrap U32 (pos b)) (pos (2 ^ c.args.exponent))) same)
