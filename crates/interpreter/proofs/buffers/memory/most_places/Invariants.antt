use Rattle.std.proofs.Common.{◌≡◌, ◌≤◌, take}
use Rattle.std.specs.Prelude.{All}
use Rattle.interpreter.proofs.buffers.memory.most_places.Given as goal

abbrev pub invariant-loop-limit : goal.invariant-loop-limit
invariant-loop-limit l = All (λ x. x.buffer ≡ l.buffer → x.places ≤ l.most) (take l.limit-index l.limits)
