use Rattle.std.proofs.Common.{◌∙◌}
use Rattle.validation.specs.Groups.Sizes.{held_in}
use Rattle.validation.proofs.Rows.{at_seq}
use Rattle.validation.proofs.Allotted.{held_all}
use Rattle.validation.proofs.groups.sizes.+held.Goals as goal

pub held_in-returns-in-Seq : goal.held_in-returns-in-Seq
held_in-returns-in-Seq t c = c.all_held_in.ensures ∙ at_seq held_in c.in-Seq.all c.deref.result.now c.args.stmt.now c.deref.ensures.value c.in-Seq.is

pub all_held_in-returns : goal.all_held_in-returns
all_held_in-returns t c = held_all c.args.all.now c.loop-stmt.stmt-index c.loop-stmt.total c.loop-stmt-test.false c.loop-stmt.invariant.small c.loop-stmt.invariant.sum
