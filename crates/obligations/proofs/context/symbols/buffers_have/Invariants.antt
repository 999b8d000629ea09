use Rattle.std.proofs.Common.{◌≡◌, false, take}
use Rattle.std.specs.List.{list_any}
use Rattle.soundness.specs.Obligations.{places_have}
use Rattle.obligations.proofs.context.symbols.buffers_have.Given as goal

abbrev pub invariant-loop-buffer : goal.invariant-loop-buffer
invariant-loop-buffer l = list_any (λ b. list_any (places_have l.symbol) b.places.now) (take l.buffer-index l.buffers) ≡ false
