use Rattle.std.proofs.Common.{◌<◌, ◌≤◌, ℕ}
use Rattle.std.specs.Bool.{OnTrue}
use Rattle.interpreter.specs.Evaluation.Words.{bits_at}
use Rattle.interpreter.proofs.scanlines.are_words_at_most.Given as goal

abbrev pub invariant-loop-turn : goal.invariant-loop-turn
invariant-loop-turn l = OnTrue l.all ((k : ℕ) → k < l.turn → bits_at l.words k ≤ l.most)
