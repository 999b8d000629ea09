use Rattle.std.proofs.Common.{◌≡◌, take, ◌++◌}
use Rattle.soundness.specs.Outline.View.{outline_in}
use Rattle.obligations.specs.Loads.{variable_spans}
use Rattle.obligations.proofs.spans.push_variables.Given as goal

abbrev pub invariant-loop-coordinate : goal.invariant-loop-coordinate
invariant-loop-coordinate g l = l.region ≡ l.initial.region ++ variable_spans (outline_in l.judge.outlined.now) (g.B.Bounds.rules l.judge.bounds.now) (take l.coordinate-index l.coordinates)
