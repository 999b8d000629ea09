use Rattle.std.proofs.Common.{◌≡◌, drop}
use Rattle.interpreter.specs.Sizes.{size_in}
use Rattle.interpreter.proofs.sizes.size_in.Given as goal

abbrev pub invariant-loop-size : goal.invariant-loop-size
invariant-loop-size l = size_in l.sizes l.buffer ≡ size_in (drop l.size-index l.sizes) l.buffer
