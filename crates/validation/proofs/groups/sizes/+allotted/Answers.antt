use Rattle.std.proofs.Common.{◌∙◌}
use Rattle.validation.specs.Groups.Sizes.{allotted}
use Rattle.validation.proofs.Rows.{at_seq}
use Rattle.validation.proofs.Allotted.{allotted_all}
use Rattle.validation.proofs.groups.sizes.+allotted.Goals as goal

pub allotted-returns-in-Seq : goal.allotted-returns-in-Seq
allotted-returns-in-Seq t c = c.all_allotted.ensures ∙ at_seq allotted c.in-Seq.all c.deref.result.now c.args.stmt.now c.deref.ensures.value c.in-Seq.is

pub all_allotted-returns : goal.all_allotted-returns
all_allotted-returns t c = allotted_all c.args.all.now c.loop-stmt.stmt-index c.loop-stmt.total c.loop-stmt-test.false c.loop-stmt.invariant.small c.loop-stmt.invariant.sum
