use Rattle.std.proofs.Common.{ℕ, sym, ap, ◌∙◌, subst}
use Rattle.interpreter.specs.Buffers.Raster.{place_count}
use Rattle.interpreter.specs.Buffers.Blocks.{limits_of, HasMemoryFor}
use Rattle.interpreter.specs.Bindings.{symbols_of}
use Rattle.interpreter.proofs.Fitting.{counted}
use Rattle.interpreter.proofs.store.allot.Goals as goal

pub allot-requires : goal.allot-requires
allot-requires c =
    subst (λ (n : ℕ). HasMemoryFor (limits_of c.args.state.now.memory) c.args.buffer n)
    (sym (ap place_count c.rooms-rooms.ensures ∙ counted (symbols_of c.args.symbols.now) c.args.places.now)) c.requires.memory
