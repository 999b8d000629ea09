use Rattle.std.proofs.Common.{◌≡◌, arith}
use Rattle.std.specs.Prelude.{Some}
use Rattle.std.proofs.lemmas.Grind.{common_steps}
use Rattle.bounds.specs.Projection.Projection.{projected_span}
use Rattle.bounds.proofs.ProjectionSound.{span-outer, span-holds}
use Rattle.bounds.proofs.projection.spans.project_span.Goals as goal

pub returns-in-Some-clause-outer : goal.returns-in-Some-clause-outer
returns-in-Some-clause-outer c =
    let is : projected_span c.args.scope.now c.args.inner.now c.args.span.now ≡ Some c.in-Some.found = grind (arith, common_steps) in
    span-outer c.args.scope.now c.args.inner.now c.args.span.now c.in-Some.found is

pub returns-in-Some-clause-sound : goal.returns-in-Some-clause-sound
returns-in-Some-clause-sound c =
    let is : projected_span c.args.scope.now c.args.inner.now c.args.span.now ≡ Some c.in-Some.found = grind (arith, common_steps) in
    span-holds c.args.scope.now c.args.inner.now c.args.span.now c.in-Some.found is
