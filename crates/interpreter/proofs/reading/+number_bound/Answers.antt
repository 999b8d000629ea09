use Rattle.std.proofs.Common.{arith}
use Rattle.std.proofs.lemmas.Bool.{ltb-true}
use Rattle.interpreter.proofs.Shorts.{bound_short}
use Rattle.interpreter.proofs.reading.+number_bound.Goals as goal

pub returns-in_default-2 : goal.returns-in_default-2
returns-in_default-2 t c = bound_short _ c.args.numbers.now c.args.name.now (omega (arith, ltb-true))
