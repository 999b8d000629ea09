use Rattle.std.proofs.Common.{◌≡◌, ℕ, pos}
use Rattle.numeric.specs.Apply.{apply}
use Rattle.numeric.specs.Wrap.{wrap}
use Rattle.interpreter.specs.Evaluation.Words.{word_at}
use Rattle.interpreter.proofs.EachWord.{WordsBelow}
use Rattle.interpreter.proofs.evaluation.small_orders.extreme_each.Given as goal

abbrev pub invariant-loop-turn : goal.invariant-loop-turn
invariant-loop-turn g l =
    let P : ℕ → ℕ → Type 0 = λ k w. wrap g.W.SmallWidth.ty (pos w) ≡ apply g.O.Extreme.op g.W.SmallWidth.ty (word_at g.W.SmallWidth.ty l.initial.out k) (word_at g.W.SmallWidth.ty l.right k) in
    WordsBelow P l.turn l.initial.out l.out
