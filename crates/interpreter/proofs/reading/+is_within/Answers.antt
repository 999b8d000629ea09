use Rattle.std.proofs.Common.{arith}
use Rattle.std.proofs.lemmas.Bool.{ltb-false, ltb-true}
use Rattle.interpreter.proofs.Shorts.{within_short}
use Rattle.interpreter.proofs.reading.+is_within.Goals as goal

pub returns-in_default-2 : goal.returns-in_default-2
returns-in_default-2 t c = within_short c.args.extents.now c.args.at.now (omega (arith, ltb-false)) (omega (arith, ltb-true))
