use Rattle.algo.proofs.Named.{later_calls_named}
use Rattle.algo.proofs.laws.later_calls_are_named.Goals as goal

pub returns : goal.returns
returns c = later_calls_named
