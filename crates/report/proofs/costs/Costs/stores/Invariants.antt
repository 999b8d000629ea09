use Rattle.std.proofs.Common.{◌≡◌, take}
use Rattle.report.specs.Costs.{capped}
use Rattle.report.proofs.Totals.{stores_of}
use Rattle.report.proofs.costs.Costs.stores.Given as goal

abbrev pub invariant-loop-cost : goal.invariant-loop-cost
invariant-loop-cost l = l.count ≡ capped (stores_of (take l.cost-index l.self.functions.items))
