use Rattle.std.proofs.Common.{◌∙◌}
use Rattle.validation.specs.Stored.Definitions.{allots}
use Rattle.validation.proofs.Rows.{at_seq}
use Rattle.validation.proofs.stored.defined.+allots.Goals as goal

pub allots-returns-in-Seq : goal.allots-returns-in-Seq
allots-returns-in-Seq t c = c.any_allots.ensures ∙ at_seq (allots c.args.name.now) c.in-Seq.all c.deref.result.now c.args.stmt.now c.deref.ensures.value c.in-Seq.is
