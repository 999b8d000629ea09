use Rattle.std.proofs.Common.{◌≡◌, take}
use Rattle.audit.proofs.names.are_lengths.Given as goal

abbrev pub invariant-loop-index : goal.invariant-loop-index
invariant-loop-index l = take l.index l.extents ≡ take l.index l.lengths
