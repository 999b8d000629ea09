use Rattle.std.proofs.Common.{length}
use Rattle.rules.proofs.bounding.kept.+answer_of.Given as goal

abbrev pub decreases-answer_of : goal.decreases-answer_of
decreases-answer_of l = length l.answers.now
