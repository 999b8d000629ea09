use Rattle.std.proofs.Common.{arith}
use Rattle.std.proofs.lemmas.Bool.{ltb-true, ltb-false}
use Rattle.soundness.specs.Binders.View.{binders_of}
use Rattle.rules.specs.Nests.View.{coordinates_of, loops_of}
use Rattle.rules.proofs.Ends.{loops_end}
use Rattle.rules.proofs.nests.folds.+loops_hold.Goals as goal

pub returns-in_default-empty : goal.returns-in_default-empty
returns-in_default-empty g t c = loops_end (g.B.Bounds.rules c.args.at.now.bounds.now) (binders_of c.args.at.now.binders.now) (loops_of c.args.loops.now) (coordinates_of c.args.coordinates.now) c.args.places.now (omega (arith, ltb-true, ltb-false))
