use Rattle.std.proofs.Common.{◌≡◌, ◌+◌, ◌*◌, flat_map, take}
use Rattle.std.specs.List.{range_with_len}
use Rattle.shares.proofs.walked.runs_of.Given as goal

abbrev pub invariant-loop-row : goal.invariant-loop-row
invariant-loop-row l = l.cells ≡ flat_map (λ m. range_with_len (l.offset + l.extent * m) l.count) (take l.row-index l.rows)
