use Rattle.expr.proofs.Complete.{expression_reads}
use Rattle.expr.proofs.laws.grammar_is_read.Goals as goal

pub returns : goal.returns
returns c = expression_reads
