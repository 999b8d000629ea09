use Rattle.blocks.proofs.Grouped.{nothing_inside}
use Rattle.blocks.proofs.group.Body.nests_of.Goals as goal

pub returns-in-empty-clause-mixed : goal.returns-in-empty-clause-mixed
returns-in-empty-clause-mixed c = λ some. nothing_inside c.args.cast.inners.now c.in-empty.len_below some
