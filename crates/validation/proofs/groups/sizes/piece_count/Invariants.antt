use Rattle.std.proofs.Common.{◌≡◌, take}
use Rattle.plan.specs.Certificate.Cells.{piece_count}
use Rattle.validation.specs.Stored.Sizes.{counted}
use Rattle.validation.proofs.groups.sizes.piece_count.Given as goal

abbrev pub invariant-loop-count : goal.invariant-loop-count
invariant-loop-count l = l.total ≡ counted (piece_count (take l.count-index l.grid))
