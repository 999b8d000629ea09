use Rattle.std.proofs.Common.{◌≡◌, ℕ, ◌+◌, ◌-◌, ◌<◌, ◌≤◌}
use Rattle.std.specs.Prelude.{slice_index}
use Rattle.board.proofs.putting.follow_each_other.Given as goal

abbrev pub invariant-loop-place : goal.invariant-loop-place
invariant-loop-place l = record {
  next : l.next ≡ slice_index l.cells l.from + (l.place - l.from);
  few : l.following ≤ l.place - l.from;
  all : l.following ≡ l.place - l.from → (m : ℕ) → l.from ≤ m → m < l.place → slice_index l.cells m ≡ slice_index l.cells l.from + (m - l.from);
}
