use Rattle.std.proofs.Common.{◌≡◌, ◌+◌, ◌*◌}
use Rattle.board.proofs.kept.pixel_of.Given as goal

abbrev pub invariant-loop-pixel : goal.invariant-loop-pixel
invariant-loop-pixel l = l.before ≡ l.colour * l.planes.pixels + l.pixel

abbrev pub decreases-loop-pixel : goal.decreases-loop-pixel
decreases-loop-pixel l = l.pixel
