use Rattle.std.proofs.Common.{◌<◌, take}
use Rattle.std.specs.Prelude.{All}
use Rattle.shares.specs.Noted.{lines_noted}
use Rattle.shares.proofs.early.count_ahead.Given as goal

abbrev pub invariant-loop-place : goal.invariant-loop-place
invariant-loop-place l = All (λ x. x.line < l.line) (take l.place (lines_noted l.lines))
