use Rattle.std.proofs.Common.{◌∙◌}
use Rattle.std.proofs.Props.{props}
use Rattle.std.proofs.Math.Logic.{∥∥₁_elim}
use Rattle.claims.proofs.group_bounds.GroupBoundsFacts.extents.Goals as goal

pub returns : goal.returns
returns c = c.deref.ensures.value ∙ ∥∥₁_elim c.args.self.now.extents_are (hlevel props) (λ is. is)
