use Rattle.std.proofs.Common.{w64}
use Rattle.std.proofs.lemmas.Int.{wrapping_add_is}
use Rattle.interpreter.proofs.evaluation.operations.SumOperator.low_bits.Goals as goal

pub returns : goal.returns
returns c = wrapping_add_is w64 c.args.left c.args.right c.ranges.left c.ranges.right
