use Rattle.std.proofs.Common.{◌≡◌, ◌+◌, ◌*◌, ◌≤◌, All, length}
use Rattle.report.proofs.drawing.put_row.Given as goal

abbrev pub invariant-loop-x : goal.invariant-loop-x
invariant-loop-x l =
    (length l.samples.items ≡ length l.initial.samples.items + l.x * 3) × (All (λ n. n ≤ 255) l.initial.samples.items → All (λ n. n ≤ 255) l.samples.items)
