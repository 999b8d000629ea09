use Rattle.std.proofs.Common.{◌+◌, ◌∙◌}
use Rattle.std.specs.Prelude.{max}
use Rattle.subst.proofs.Sizes.{counts_more, depths_more}
use Rattle.subst.proofs.nodes.size_with.Goals as goal

pub returns-clause-nodes : goal.returns-clause-nodes
returns-clause-nodes c = (λ i. c.args.row.now.counted i + c.args.index.now.counted i) ∙ counts_more c.args.row.now.at.items c.args.index.now.expr

pub returns-clause-levels : goal.returns-clause-levels
returns-clause-levels c = c.max.ensures ∙ (λ i. max (c.args.row.now.deep i) (c.args.index.now.deep i)) ∙ depths_more c.args.row.now.at.items c.args.index.now.expr
