use Rattle.std.proofs.lemmas.Nat.{and_mask}
use Rattle.interpreter.proofs.buffers.setting.low_byte.Goals as goal

pub returns : goal.returns
returns c = and_mask c.args.word 8
