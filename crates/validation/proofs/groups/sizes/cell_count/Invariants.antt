use Rattle.std.proofs.Common.{◌≡◌, map, take}
use Rattle.validation.specs.Groups.Sizes.{product, extent_of}
use Rattle.validation.specs.Stored.Sizes.{counted}
use Rattle.validation.proofs.groups.sizes.cell_count.Given as goal

abbrev pub invariant-loop-span : goal.invariant-loop-span
invariant-loop-span l = l.total ≡ counted (product (map extent_of (take l.span-index l.region)))
