use Rattle.std.proofs.Common.{◌≡◌, Some}
use Rattle.tree.specs.Meaning.{typed}
use Rattle.interpreter.specs.Buffers.Blocks.{memory_of}
use Rattle.interpreter.specs.Evaluation.Lanes.{lanes_at}
use Rattle.interpreter.specs.RunReadings.{source_at}
use Rattle.interpreter.proofs.Each.{HoldsBelow}
use Rattle.interpreter.proofs.run_reading.RunReading.gather.Given as goal

abbrev pub invariant-loop-turn : goal.invariant-loop-turn
invariant-loop-turn l =
    HoldsBelow (λ k z. source_at l.self (memory_of l.self.memory.now) l.source (lanes_at l.count l.indices l.registers k) ≡ Some (typed l.ty z)) l.turn l.initial.out l.out
