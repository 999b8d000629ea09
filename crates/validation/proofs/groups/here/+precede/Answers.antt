use Rattle.std.proofs.Common.{◌∙◌}
use Rattle.validation.specs.Groups.Lines.{may_precede}
use Rattle.validation.proofs.Rows.{at_seq}
use Rattle.validation.proofs.groups.here.+precede.Goals as goal

pub may_precede-returns-in-Seq : goal.may_precede-returns-in-Seq
may_precede-returns-in-Seq t c = c.may_all_precede.ensures ∙ at_seq may_precede c.in-Seq.all c.deref.result.now c.args.stmt.now c.deref.ensures.value c.in-Seq.is
