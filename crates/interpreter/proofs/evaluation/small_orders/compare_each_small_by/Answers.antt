use Rattle.std.proofs.Common.{◌≡◌, ◌<◌, ℕ, ℤ, length, arith, pos, ap, ◌∙◌, w32, to_z, of_z}
use Rattle.numeric.specs.Apply.{compare}
use Rattle.numeric.specs.Wrap.{wrap}
use Rattle.interpreter.specs.Evaluation.Words.{bits_at, says_yes, word_at}
use Rattle.interpreter.proofs.EachWord.{words_next}
use Rattle.interpreter.proofs.evaluation.small_orders.compare_each_small_by.Goals as goal

pub loop-turn-preserved : goal.loop-turn-preserved
loop-turn-preserved g c =
    let l = c.loop-turn in
    let ty = g.W.SmallWidth.ty in
    let right : ℤ = to_z w32 (of_z w32 c.args.right) in
    let P : ℕ → ℕ → Type 0 = λ k w. says_yes w ≡ compare g.C.Comparing.by (word_at ty c.args.out.now k) right in
    let lt : l.turn < length l.out = omega arith in
    let same : bits_at l.out l.turn ≡ bits_at c.args.out.now l.turn = l.invariant.later l.turn (omega arith) in
    words_next P l.turn c.args.out.now l.out _ lt l.invariant
    (c.compared_small_word.ensures ∙ ap (λ (b : ℕ). compare g.C.Comparing.by (wrap ty (pos b)) right) same)
