use Rattle.std.proofs.Props.{props}
use Rattle.std.proofs.Math.Logic.{∥∥₁_elim}
use Rattle.claims.proofs.group_bounds.GroupBoundsFacts.own.Goals as goal

pub returns : goal.returns
returns c = ∥∥₁_elim c.args.self.now.own_is (hlevel props) (λ is. is)
