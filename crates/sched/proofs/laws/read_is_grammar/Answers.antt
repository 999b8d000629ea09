use Rattle.sched.proofs.Sound.{file_is}
use Rattle.sched.proofs.laws.read_is_grammar.Goals as goal

pub returns : goal.returns
returns c = file_is
