use Rattle.std.proofs.Common.{◌≡◌, ◌*◌, ◌≤◌, All, length}
use Rattle.report.proofs.drawing.draw.Given as goal

abbrev pub invariant-loop-y : goal.invariant-loop-y
invariant-loop-y l = (length l.samples.items ≡ l.y * (l.canvas.width * 3)) × All (λ n. n ≤ 255) l.samples.items
