use Rattle.std.proofs.Common.{◌≡◌, [], take}
use Rattle.pnm.specs.Reading.{walk, Going}
use Rattle.pnm.proofs.whole.raster_at.Given as goal

abbrev pub invariant-loop-at : goal.invariant-loop-at
invariant-loop-at l = walk l.wanted (take l.at l.bytes) ≡ Going l.state []
