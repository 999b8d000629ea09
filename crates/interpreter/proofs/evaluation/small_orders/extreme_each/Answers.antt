use Rattle.std.proofs.Common.{◌≡◌, ◌<◌, ℕ, length, arith, pos, ap, ◌∙◌}
use Rattle.numeric.specs.Apply.{apply}
use Rattle.numeric.specs.Wrap.{wrap}
use Rattle.interpreter.specs.Evaluation.Words.{bits_at, word_at}
use Rattle.interpreter.proofs.EachWord.{words_next}
use Rattle.interpreter.proofs.evaluation.small_orders.extreme_each.Goals as goal

pub loop-turn-preserved : goal.loop-turn-preserved
loop-turn-preserved g c =
    let l = c.loop-turn in
    let op = g.O.Extreme.op in
    let ty = g.W.SmallWidth.ty in
    let P : ℕ → ℕ → Type 0 = λ k w. wrap ty (pos w) ≡ apply op ty (word_at ty c.args.out.now k) (word_at ty c.args.right.now k) in
    let lt : l.turn < length l.out = omega arith in
    let same : bits_at l.out l.turn ≡ bits_at c.args.out.now l.turn = l.invariant.later l.turn (omega arith) in
    words_next P l.turn c.args.out.now l.out _ lt l.invariant
    (c.extreme_of_words.ensures ∙ ap (λ (b : ℕ). apply op ty (wrap ty (pos b)) (word_at ty c.args.right.now l.turn)) same)
