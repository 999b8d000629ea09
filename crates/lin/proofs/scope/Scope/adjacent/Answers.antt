use Rattle.std.proofs.Common.{◌≡◌, arith}
use Rattle.std.proofs.lemmas.Grind.{common_steps}
use Rattle.lin.specs.Regions.{adjacent}
use Rattle.lin.proofs.RegionLemmas.{adjacent-means}
use Rattle.lin.proofs.scope.Scope.adjacent.Goals as goal

pub returns-in_ok-have_successor_below-clause-sound : goal.returns-in_ok-have_successor_below-clause-sound
returns-in_ok-have_successor_below-clause-sound c =
    let exact : c.in_ok-have_successor_below.field-0 ≡ adjacent c.args.self.now c.args.a.now c.args.b.now = grind (arith, common_steps) in
    adjacent-means c.args.self.now c.args.a.now c.args.b.now c.in_ok-have_successor_below.field-0 exact
