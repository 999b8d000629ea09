use Rattle.std.proofs.Common.{take}
use Rattle.std.specs.Prelude.{All}
use Rattle.shares.specs.FetchLines.{LineIsNear}
use Rattle.shares.specs.Noted.{lines_noted}
use Rattle.shares.specs.Seats.{pieces_of}
use Rattle.shares.proofs.far.far_place.Given as goal

abbrev pub invariant-loop-place : goal.invariant-loop-place
invariant-loop-place l = All (LineIsNear (pieces_of l.seats)) (take l.place (lines_noted l.lines))
