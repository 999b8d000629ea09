use Rattle.std.proofs.Common.{arith}
use Rattle.std.proofs.lemmas.Bool.{ltb-true, ltb-false}
use Rattle.soundness.specs.Binders.View.{binders_of}
use Rattle.tails.specs.SplitMaps.{steps_of}
use Rattle.tails.proofs.OfWindows.Parts.{too_few_forms, too_few_places}
use Rattle.tails.proofs.windows.holding.+hold.Goals as goal

pub returns-in-len1-up-empty-default : goal.returns-in-len1-up-empty-default
returns-in-len1-up-empty-default g t c =
    too_few_forms (g.B.Bounds.rules c.args.bounds.now) (binders_of c.args.binders.now) c.args.alone c.args.dimension (steps_of c.args.points.now) c.args.spans.now c.args.forms.now c.args.places.now
    (omega (arith, ltb-true, ltb-false)) (omega (arith, ltb-true, ltb-false))

pub returns-in-len1-up-len1-up-empty : goal.returns-in-len1-up-len1-up-empty
returns-in-len1-up-len1-up-empty g t c =
    too_few_places (g.B.Bounds.rules c.args.bounds.now) (binders_of c.args.binders.now) c.args.alone c.args.dimension (steps_of c.args.points.now) c.args.spans.now c.args.forms.now c.args.places.now
    (omega (arith, ltb-true, ltb-false)) (omega (arith, ltb-true, ltb-false)) (omega (arith, ltb-true, ltb-false))
