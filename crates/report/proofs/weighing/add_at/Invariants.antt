use Rattle.std.proofs.Common.{◌≡◌, ℕ, ◌-◌, ◌^◌, ◌<◌, ◌≤◌, length, ℤ, pos, ◌+ℤ◌}
use Rattle.plan.specs.Symbols.{rising}
use Rattle.report.specs.Weighing.{AreHeavier}
use Rattle.report.proofs.weighing.add_at.Given as goal

abbrev pub invariant-loop-place : goal.invariant-loop-place
invariant-loop-place l = record {
  from : l.from ≤ l.place;
  long : length l.weights ≡ length l.initial.weights;
  sums : (m : ℕ) (low : ℤ) → m < 2 ^ 64 → AreHeavier m low l.initial.weights l.weights l.weight (rising (low +ℤ pos l.from) (l.place - l.from));
}
