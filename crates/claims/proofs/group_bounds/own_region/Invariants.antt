use Rattle.std.proofs.Common.{◌≡◌, drop}
use Rattle.plan.specs.Certificate.Cells.{own_region}
use Rattle.claims.proofs.group_bounds.own_region.Given as goal

abbrev pub invariant-loop-own : goal.invariant-loop-own
invariant-loop-own l = own_region l.all l.group ≡ own_region (drop l.own-index l.all) l.group
