use Rattle.std.proofs.Common.{◌≡◌, ◌<◌, ℕ, ℤ, length, arith, pos, ap, ◌∙◌, w32, to_z, of_z}
use Rattle.std.proofs.lemmas.Int.{to_z-of_z}
use Rattle.numeric.specs.Apply.{apply}
use Rattle.numeric.specs.Wrap.{wrap}
use Rattle.interpreter.specs.Evaluation.Words.{bits_at, word_at}
use Rattle.interpreter.proofs.EachWord.{words_next}
use Rattle.interpreter.proofs.evaluation.small_orders.extreme_each_by.Goals as goal

pub loop-turn-preserved : goal.loop-turn-preserved
loop-turn-preserved g c =
    let l = c.loop-turn in
    let op = g.O.Extreme.op in
    let ty = g.W.SmallWidth.ty in
    let right : ℤ = to_z w32 (of_z w32 c.args.right) in
    let P : ℕ → ℕ → Type 0 = λ k w. wrap ty (pos w) ≡ apply op ty (word_at ty c.args.out.now k) right in
    let lt : l.turn < length l.out = omega arith in
    let same : bits_at l.out l.turn ≡ bits_at c.args.out.now l.turn = l.invariant.later l.turn (omega arith) in
    words_next P l.turn c.args.out.now l.out _ lt l.invariant
    (c.extreme_word.ensures ∙ ap (λ (b : ℕ). apply op ty (wrap ty (pos b)) right) same)

pub returns : goal.returns
returns g c = λ k lt.
    c.loop-turn.invariant.done k (omega arith)
    ∙ ap (λ (b : ℤ). apply g.O.Extreme.op g.W.SmallWidth.ty (word_at g.W.SmallWidth.ty c.args.out.now k) b) (to_z-of_z w32 c.args.right c.ranges.right)
