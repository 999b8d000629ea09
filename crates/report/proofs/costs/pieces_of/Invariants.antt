use Rattle.std.proofs.Common.{◌≡◌, take}
use Rattle.report.specs.Costs.{capped}
use Rattle.report.proofs.Places.{pieces_in}
use Rattle.report.proofs.costs.pieces_of.Given as goal

abbrev pub invariant-loop-group : goal.invariant-loop-group
invariant-loop-group l = l.count ≡ capped (pieces_in l.function (take l.group-index l.groups))
