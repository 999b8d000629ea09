use Rattle.std.proofs.Common.{◌≡◌, take, map}
use Rattle.plan.proofs.copying.copy_all_places.Given as goal

abbrev pub invariant-loop-one : goal.invariant-loop-one
invariant-loop-one l = l.copied.items ≡ take l.one-index l.places
