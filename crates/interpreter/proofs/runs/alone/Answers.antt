use Rattle.interpreter.proofs.OneLines.{not_alone}
use Rattle.interpreter.proofs.runs.alone.Goals as goal

pub returns-in-len2-up : goal.returns-in-len2-up
returns-in-len2-up c = not_alone c.args.all.now c.in-len2-up.len_at_least
