use Rattle.std.proofs.Common.{arith}
use Rattle.std.proofs.lemmas.Int.{ints, clamps}
use Rattle.tree.proofs.evaluation.clamped.Goals as goal

pub returns-clause-within : goal.returns-clause-within
returns-clause-within c = record { from = omega (arith, ints, clamps); to = omega (arith, ints, clamps) }
