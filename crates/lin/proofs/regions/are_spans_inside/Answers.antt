use Rattle.std.proofs.Common.{arith, sym}
use Rattle.lin.proofs.RegionLemmas.{inside-unequal}
use Rattle.lin.proofs.regions.are_spans_inside.Goals as goal

pub returns-then-a-b : goal.returns-then-a-b
returns-then-a-b c = sym (inside-unequal c.args.scope.now c.args.a.now c.args.b.now (λ e. omega (arith, e)))
