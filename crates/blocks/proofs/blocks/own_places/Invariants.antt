use Rattle.std.proofs.Common.{◌≡◌, ◌++◌, drop}
use Rattle.blocks.specs.Blocks.{own_places}
use Rattle.blocks.proofs.blocks.own_places.Given as goal

abbrev pub invariant-loop-one : goal.invariant-loop-one
invariant-loop-one l = l.places.items ++ own_places (drop l.one-index l.dimensions) ≡ own_places l.dimensions
