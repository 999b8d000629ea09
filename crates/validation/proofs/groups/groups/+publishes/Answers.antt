use Rattle.std.proofs.Common.{◌∙◌}
use Rattle.headline.specs.Sound.{publishes}
use Rattle.validation.proofs.Rows.{at_seq}
use Rattle.validation.proofs.groups.groups.+publishes.Goals as goal

pub publishes-returns-in-Seq : goal.publishes-returns-in-Seq
publishes-returns-in-Seq t c = c.any_publishes.ensures ∙ at_seq publishes c.in-Seq.all c.deref.result.now c.args.stmt.now c.deref.ensures.value c.in-Seq.is
