use Rattle.std.proofs.Common.{◌-◌, length}
use Rattle.algo.specs.View.{algorithm_of}
use Rattle.regions.proofs.lacking.+calls_by_text.Given as goal

abbrev pub decreases-calls_by_text : goal.decreases-calls_by_text
decreases-calls_by_text l = length (algorithm_of l.algo.now).functions - l.number
