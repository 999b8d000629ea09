use Rattle.std.proofs.Common.{◌≡◌, Some}
use Rattle.interpreter.specs.Evaluation.Lanes.{number_at}
use Rattle.interpreter.specs.SampleRows.{sampled}
use Rattle.interpreter.specs.Scanlines.{pixel_along}
use Rattle.interpreter.proofs.Each.{HoldsBelow}
use Rattle.interpreter.proofs.scanlines.take_pixels.Given as goal

abbrev pub invariant-loop-turn : goal.invariant-loop-turn
invariant-loop-turn l = HoldsBelow (λ k z. pixel_along l.row.colours l.row.colour (sampled l.row.samples) (number_at l.initial.out k) ≡ Some z) l.turn l.initial.out l.out
