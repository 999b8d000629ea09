use Rattle.std.proofs.Common.{◌≡◌, List, arith}
use Rattle.std.specs.Prelude.{map, Some}
use Rattle.std.proofs.lemmas.Grind.{common_steps}
use Rattle.lin.specs.declared.span.Span1.{Span1}
use Rattle.bounds.specs.Projection.Unions.{united}
use Rattle.bounds.proofs.UnionSound.{united-holds}
use Rattle.bounds.proofs.projection.unions.united.Goals as goal

pub returns-in-Some-clause-sound : goal.returns-in-Some-clause-sound
returns-in-Some-clause-sound c =
    let is : united c.args.scope.now (map (λ (r : List Span1). Some r) c.args.regions.now) ≡ Some c.in-Some.found = grind (arith, common_steps) in
    united-holds c.args.scope.now c.args.regions.now c.in-Some.found is
