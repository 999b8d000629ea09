use Rattle.tree.proofs.Soundness.{does_as_typed}
use Rattle.tree.proofs.laws.types_hold.Goals as goal

pub returns : goal.returns
returns c known functions variables answers told a t h = does_as_typed known functions variables answers told a t h
