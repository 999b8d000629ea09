use Rattle.std.proofs.Common.{◌≡◌, ◌-◌, ◌^◌, min, take}
use Rattle.shares.specs.FetchLines.{fetched_by}
use Rattle.shares.specs.Noted.{line_of}
use Rattle.shares.specs.Seats.{pieces_of}
use Rattle.shares.proofs.counts.cells_by.Given as goal

abbrev pub invariant-loop-seat : goal.invariant-loop-seat
invariant-loop-seat l = l.count ≡ min (fetched_by (pieces_of (take l.seat-index l.seats)) (line_of l.line)) (2 ^ 64 - 1)
