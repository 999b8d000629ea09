use Rattle.std.proofs.Common.{◌∙◌}
use Rattle.validation.specs.Groups.Sizes.{bound_in}
use Rattle.validation.proofs.Rows.{at_seq}
use Rattle.validation.proofs.Allotted.{bound_all}
use Rattle.validation.proofs.groups.sizes.+bound.Goals as goal

pub bound_in-returns-in-Seq : goal.bound_in-returns-in-Seq
bound_in-returns-in-Seq t c = c.all_bound_in.ensures ∙ at_seq bound_in c.in-Seq.all c.deref.result.now c.args.stmt.now c.deref.ensures.value c.in-Seq.is

pub all_bound_in-returns : goal.all_bound_in-returns
all_bound_in-returns t c = bound_all c.args.all.now c.loop-stmt.stmt-index c.loop-stmt.total c.loop-stmt-test.false c.loop-stmt.invariant.small c.loop-stmt.invariant.sum
