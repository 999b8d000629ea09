use Rattle.std.proofs.Common.{arith}
use Rattle.std.proofs.lemmas.Bool.{ltb-true, ltb-false}
use Rattle.soundness.specs.Binders.View.{binders_of}
use Rattle.rules.proofs.Ends.{folds_end}
use Rattle.rules.proofs.nests.folds.+fold_holds.Goals as goal

pub returns-in_default-empty : goal.returns-in_default-empty
returns-in_default-empty g t c = folds_end (g.B.Bounds.rules c.args.at.now.bounds.now) (binders_of c.args.at.now.binders.now) c.args.region.now c.args.places.now (omega (arith, ltb-true, ltb-false))
