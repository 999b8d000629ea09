use Rattle.tails.proofs.Assigned.{assignments_are_written}
use Rattle.tails.proofs.laws.assignments_are_written.Goals as goal

pub returns : goal.returns
returns c = assignments_are_written
