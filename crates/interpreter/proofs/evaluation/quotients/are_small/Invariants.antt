use Rattle.std.proofs.Common.{◌<◌, ℕ}
use Rattle.std.specs.Bool.{OnTrue}
use Rattle.interpreter.specs.Evaluation.Quotients.{IsSmall}
use Rattle.interpreter.specs.Evaluation.Words.{word_at}
use Rattle.interpreter.proofs.evaluation.quotients.are_small.Given as goal

abbrev pub invariant-loop-turn : goal.invariant-loop-turn
invariant-loop-turn g l = OnTrue l.all ((k : ℕ) → k < l.turn → IsSmall (word_at g.W.Width.ty l.words k))
