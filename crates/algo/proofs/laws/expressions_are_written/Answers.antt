use Rattle.algo.proofs.Words.{expressions_are_written}
use Rattle.algo.proofs.laws.expressions_are_written.Goals as goal

pub returns : goal.returns
returns c = expressions_are_written
