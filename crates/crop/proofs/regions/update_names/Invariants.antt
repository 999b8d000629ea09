use Rattle.std.proofs.Common.{◌≡◌, take, map}
use Rattle.algo.specs.Parts.{names_of, range_of}
use Rattle.crop.specs.Inference.Needed.{names_beside}
use Rattle.crop.proofs.regions.update_names.Given as goal

abbrev pub invariant-loop-range : goal.invariant-loop-range
invariant-loop-range l = map (λ x. x.now) l.names.items ≡ names_beside (names_of l.variables) (map range_of (take l.range-index l.ranges))
