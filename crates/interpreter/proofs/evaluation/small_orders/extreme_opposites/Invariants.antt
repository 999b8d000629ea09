use Rattle.std.proofs.Common.{◌≡◌, ℕ, pos}
use Rattle.std.specs.Prelude.{neg_ℤ}
use Rattle.numeric.specs.Apply.{apply}
use Rattle.numeric.specs.Wrap.{wrap}
use Rattle.interpreter.specs.Evaluation.Words.{word_at}
use Rattle.interpreter.proofs.EachWord.{WordsBelow}
use Rattle.interpreter.proofs.evaluation.small_orders.extreme_opposites.Given as goal

abbrev pub invariant-loop-turn : goal.invariant-loop-turn
invariant-loop-turn g l =
    let ty = g.W.SmallWidth.ty in
    let P : ℕ → ℕ → Type 0 = λ k w. wrap ty (pos w) ≡ apply g.O.Extreme.op ty (word_at ty l.initial.out k) (wrap ty (neg_ℤ (word_at ty l.initial.out k))) in
    WordsBelow P l.turn l.initial.out l.out
