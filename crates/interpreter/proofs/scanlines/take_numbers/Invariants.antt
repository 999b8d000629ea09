use Rattle.std.proofs.Common.{◌≡◌, Some}
use Rattle.std.specs.Prelude.{◌-ℤ◌}
use Rattle.tree.specs.Meaning.{typed}
use Rattle.interpreter.specs.Buffers.Marks.{places_held}
use Rattle.interpreter.specs.Evaluation.Lanes.{number_at}
use Rattle.interpreter.specs.Scanlines.{along}
use Rattle.interpreter.proofs.Each.{HoldsBelow}
use Rattle.interpreter.proofs.scanlines.take_numbers.Given as goal

abbrev pub invariant-loop-turn : goal.invariant-loop-turn
invariant-loop-turn l =
    HoldsBelow (λ k z. along (places_held l.line.held) (number_at l.initial.out k -ℤ l.line.origin) ≡ Some (Some (typed l.ty z))) l.turn l.initial.out l.out
