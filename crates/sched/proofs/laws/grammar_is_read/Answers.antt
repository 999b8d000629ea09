use Rattle.sched.proofs.Complete.{file_reads}
use Rattle.sched.proofs.laws.grammar_is_read.Goals as goal

pub returns : goal.returns
returns c = file_reads
