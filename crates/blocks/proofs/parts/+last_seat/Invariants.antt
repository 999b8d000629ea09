use Rattle.std.proofs.Common.{length}
use Rattle.blocks.proofs.parts.+last_seat.Given as goal

abbrev pub decreases-last_seat : goal.decreases-last_seat
decreases-last_seat l = length l.seats.now
