use Rattle.std.proofs.Common.{◌≡◌, ◌++◌, ◌-◌, ◌≤◌, length, take}
use Rattle.std.specs.List.{range_with_len}
use Rattle.shares.proofs.walked.number_cells.Given as goal

abbrev pub invariant-loop-place : goal.invariant-loop-place
invariant-loop-place l =
    (l.begun ≤ l.place) × (length l.cells ≡ length l.initial.cells) × (take l.place l.cells ≡ take l.begun l.initial.cells ++ range_with_len l.first (l.place - l.begun))
