use Rattle.std.proofs.Common.{◌≡◌, take}
use Rattle.std.specs.Prelude.{option_copied}
use Rattle.soundness.specs.Obligations.{places_of}
use Rattle.obligations.specs.Context.Around.{buffers_of}
use Rattle.obligations.proofs.context.known.Known.places_of.Given as goal

abbrev pub invariant-loop-one : goal.invariant-loop-one
invariant-loop-one l = option_copied l.found ≡ places_of (buffers_of (take l.one-index l.self.buffers.items)) l.buffer
