use Rattle.std.proofs.Common.{◌≡◌, Some}
use Rattle.interpreter.specs.Evaluation.Lanes.{number_at}
use Rattle.interpreter.specs.SampleRows.{sampled}
use Rattle.interpreter.specs.Scanlines.{sample_along}
use Rattle.interpreter.proofs.Each.{HoldsBelow}
use Rattle.interpreter.proofs.scanlines.take_samples.Given as goal

abbrev pub invariant-loop-turn : goal.invariant-loop-turn
invariant-loop-turn l = HoldsBelow (λ k z. sample_along (sampled l.samples) (number_at l.initial.out k) ≡ Some z) l.turn l.initial.out l.out
