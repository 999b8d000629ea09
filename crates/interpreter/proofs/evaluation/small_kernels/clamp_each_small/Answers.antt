use Rattle.std.proofs.Common.{◌≡◌, ◌<◌, ℕ, ℤ, length, arith, pos, ap, ◌∙◌, w32, to_z, of_z}
use Rattle.std.specs.Int.{int_max, int_min}
use Rattle.numeric.specs.Wrap.{wrap}
use Rattle.interpreter.specs.Evaluation.Words.{bits_at, word_at}
use Rattle.interpreter.proofs.EachWord.{words_next}
use Rattle.interpreter.proofs.evaluation.small_kernels.clamp_each_small.Goals as goal

pub loop-turn-preserved : goal.loop-turn-preserved
loop-turn-preserved g c =
    let l = c.loop-turn in
    let ty = g.W.Width.ty in
    let low : ℤ = to_z w32 (of_z w32 c.args.low) in
    let high : ℤ = to_z w32 (of_z w32 c.args.high) in
    let P : ℕ → ℕ → Type 0 = λ k w. wrap ty (pos w) ≡ int_max (int_min (word_at ty c.args.out.now k) high) low in
    let lt : l.turn < length l.out = omega arith in
    let same : bits_at l.out l.turn ≡ bits_at c.args.out.now l.turn = l.invariant.later l.turn (omega arith) in
    words_next P l.turn c.args.out.now l.out _ lt l.invariant
    (c.clamped_small_word.ensures ∙ ap (λ (b : ℕ). int_max (int_min (wrap ty (pos b)) high) low) same)
