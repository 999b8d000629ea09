use Rattle.std.proofs.Common.{◌≡◌, ℕ, List, arith, sym, subst}
use Rattle.std.proofs.lemmas.Grind.{common_steps}
use Rattle.bounds.specs.Projection.Lets.{with_lets}
use Rattle.bounds.specs.Projection.Sound.{AreInner}
use Rattle.bounds.proofs.LetLemmas.{lets-sound}
use Rattle.bounds.proofs.projection.lets.with_lets.Goals as goal

pub returns-clause-sound : goal.returns-clause-sound
returns-clause-sound c =
    let is : c.loop-symbol.inner.items ≡ with_lets c.args.scope.now c.args.loops.now = grind (arith, common_steps) in
    let P : List ℕ → Type 0 = λ symbols. AreInner c.args.scope.now c.args.loops.now symbols in
    subst P (sym is) (lets-sound c.args.scope.now c.args.loops.now)
