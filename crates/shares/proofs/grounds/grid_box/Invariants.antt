use Rattle.std.proofs.Common.{◌≡◌, take}
use Rattle.shares.specs.Boxes.{grid_sides}
use Rattle.shares.proofs.grounds.grid_box.Given as goal

abbrev pub invariant-loop-count : goal.invariant-loop-count
invariant-loop-count l = l.found.items ≡ grid_sides (take l.count-index l.grid)
