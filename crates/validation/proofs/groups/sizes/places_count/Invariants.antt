use Rattle.std.proofs.Common.{◌≡◌, map, take}
use Rattle.validation.specs.Groups.Sizes.{product, place_count}
use Rattle.validation.specs.Stored.Sizes.{counted}
use Rattle.validation.proofs.groups.sizes.places_count.Given as goal

abbrev pub invariant-loop-one : goal.invariant-loop-one
invariant-loop-one l = l.total ≡ counted (product (map place_count (take l.one-index l.places)))
