use Rattle.std.proofs.Common.{◌≡◌, arith}
use Rattle.std.specs.Prelude.{Some}
use Rattle.std.proofs.lemmas.Grind.{common_steps}
use Rattle.bounds.specs.Projection.Projection.{projected}
use Rattle.bounds.proofs.ProjectionSound.{region-outer, region-holds}
use Rattle.bounds.proofs.projection.spans.project.Goals as goal

pub returns-in-Some-clause-outer : goal.returns-in-Some-clause-outer
returns-in-Some-clause-outer c =
    let is : projected c.args.scope.now c.args.inner.now c.args.region.now ≡ Some c.in-Some.found = grind (arith, common_steps) in
    region-outer c.args.scope.now c.args.inner.now c.args.region.now c.in-Some.found is

pub returns-in-Some-clause-sound : goal.returns-in-Some-clause-sound
returns-in-Some-clause-sound c =
    let is : projected c.args.scope.now c.args.inner.now c.args.region.now ≡ Some c.in-Some.found = grind (arith, common_steps) in
    region-holds c.args.scope.now c.args.inner.now c.args.region.now c.in-Some.found is
