use Rattle.std.proofs.Common.{◌≡◌, arith}
use Rattle.std.proofs.lemmas.Grind.{common_steps}
use Rattle.lin.specs.Search.{sup}
use Rattle.lin.proofs.Soundness.{sup-above_if, sup-small_if}
use Rattle.lin.proofs.scope.Scope.sup.Goals as goal

pub returns-in-Some-clause-above : goal.returns-in-Some-clause-above
returns-in-Some-clause-above c =
    let exact : c.in-Some.found.bound ≡ sup c.args.self.now c.args.form.now = grind (arith, common_steps) in
    sup-above_if c.args.self.now c.args.form.now c.in-Some.found.bound exact

pub returns-in-Some-clause-small : goal.returns-in-Some-clause-small
returns-in-Some-clause-small c =
    let exact : c.in-Some.found.bound ≡ sup c.args.self.now c.args.form.now = grind (arith, common_steps) in
    sup-small_if c.args.self.now c.args.form.now c.in-Some.found.bound exact
