use Rattle.std.proofs.Common.{◌≡◌, ℕ, ◌^◌, ◌<◌, take, pos, ◌+ℤ◌}
use Rattle.report.specs.Weighing.{ArePassed}
use Rattle.report.proofs.weighing.weights_over.Given as goal

abbrev pub invariant-loop-place : goal.invariant-loop-place
invariant-loop-place l = record {
  value : l.value ≡ l.weighing.low +ℤ pos l.place;
  passed : (m : ℕ) → m < 2 ^ 64 → ArePassed m l.known l.span l.weighing.symbol l.weighing.low (take l.place l.weighing.weights.items) l.hull.low l.weights.items;
}
