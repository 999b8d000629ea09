use Rattle.std.proofs.Common.{ap, pos}
use Rattle.std.proofs.lemmas.Nat.{and_mask}
use Rattle.interpreter.proofs.evaluation.small_widths.low_16.Goals as goal

pub returns : goal.returns
returns c = ap pos (and_mask c.args.word 16)
