use Rattle.std.proofs.Common.{◌+◌, ◌<◌, ℕ, length, slice_index}
use Rattle.std.specs.Bool.{OnTrue}
use Rattle.piece.proofs.rising.is_rising.Given as goal

abbrev pub invariant-loop-next : goal.invariant-loop-next
invariant-loop-next l = OnTrue l.all ((k : ℕ) → k + 1 < l.next → k + 1 < length l.numbers → slice_index l.numbers k < slice_index l.numbers (k + 1))
