use Rattle.std.proofs.Common.{◌≡◌, take, map}
use Rattle.plan.proofs.copying.copy_region.Given as goal

abbrev pub invariant-loop-span : goal.invariant-loop-span
invariant-loop-span l = l.copied ≡ take l.span-index l.span-items
