use Rattle.std.proofs.Common.{◌≡◌, ◌<◌, ℕ, length, arith, pos, ap, ◌∙◌}
use Rattle.std.specs.Prelude.{neg_ℤ}
use Rattle.numeric.specs.Apply.{apply}
use Rattle.numeric.specs.Wrap.{wrap}
use Rattle.interpreter.specs.Evaluation.Words.{bits_at, word_at}
use Rattle.interpreter.proofs.EachWord.{words_next}
use Rattle.interpreter.proofs.evaluation.small_orders.extreme_opposites.Goals as goal

pub loop-turn-preserved : goal.loop-turn-preserved
loop-turn-preserved g c =
    let l = c.loop-turn in
    let op = g.O.Extreme.op in
    let ty = g.W.SmallWidth.ty in
    let old = c.args.out.now in
    let P : ℕ → ℕ → Type 0 = λ k w. wrap ty (pos w) ≡ apply op ty (word_at ty old k) (wrap ty (neg_ℤ (word_at ty old k))) in
    let lt : l.turn < length l.out = omega arith in
    let same : bits_at l.out l.turn ≡ bits_at old l.turn = l.invariant.later l.turn (omega arith) in
    words_next P l.turn old l.out _ lt l.invariant
    (c.extreme_opposite.ensures ∙ ap (λ (b : ℕ). apply op ty (wrap ty (pos b)) (wrap ty (neg_ℤ (wrap ty (pos b))))) same)
