use Rattle.std.proofs.Common.{◌≡◌, ◌+◌, ◌^◌, take}
use Rattle.shares.specs.FetchLines.{fetched_by_lines}
use Rattle.shares.specs.Noted.{lines_noted}
use Rattle.shares.specs.Seats.{pieces_of}
use Rattle.shares.proofs.counts.passing_place.Given as goal

abbrev pub invariant-loop-place : goal.invariant-loop-place
invariant-loop-place l = l.room + fetched_by_lines (pieces_of l.seats) (take l.place (lines_noted l.lines)) ≡ 2 ^ 26
