use Rattle.std.proofs.Common.{sym, ◌∙◌}
use Rattle.algo.specs.View.{algorithm_of}
use Rattle.crop.proofs.OfInference.NeededSound.{outer-needed, contains-needed}
use Rattle.crop.proofs.inference.definitions.needed_outside.Goals as goal

pub returns-in-Some-clause-outer : goal.returns-in-Some-clause-outer
returns-in-Some-clause-outer c =
    outer-needed (algorithm_of c.args.algo.now) c.args.algo.now.well_formed c.args.function c.args.scope.now c.args.inner.now c.args.callee.now c.args.region.now c.in-Some.found c.requires
    (sym c.in_ok-found.ensures ∙ c.in-Some.is)

pub returns-in-Some-clause-sound : goal.returns-in-Some-clause-sound
returns-in-Some-clause-sound c =
    contains-needed (algorithm_of c.args.algo.now) c.args.algo.now.well_formed c.args.function c.args.scope.now c.args.inner.now c.args.callee.now c.args.region.now c.in-Some.found c.requires
    (sym c.in_ok-found.ensures ∙ c.in-Some.is)
