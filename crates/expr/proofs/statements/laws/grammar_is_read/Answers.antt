use Rattle.expr.proofs.StatementsComplete.{reads_small, reads_large}
use Rattle.expr.proofs.statements.laws.grammar_is_read.Goals as goal

pub returns : goal.returns
returns c = record { small = reads_small; large = reads_large }
