-- What a loop that may be taken next is, in memory.
use Rattle.std.specs.Prelude.{List}
use Rattle.soundness.specs.Obligations.{Binder}
use Rattle.tails.specs.Moves.{Ready}
use Rattle.tails.specs.Held.{others_at, span_of}
use Rattle.tails.specs.declared.pending.Pending.{Pending}
use Rattle.tails.specs.declared.turns.Ready.{Ready as ReadyHeld}

abbrev pub ready_with : List Binder → ReadyHeld → Ready
ready_with others r = record { symbol = r.symbol; span = span_of r.lower.now r.upper.now; others = others; factor = r.factor; is_single = r.is_single }

-- beside the other ones of these steps
abbrev pub ready_of : List Pending → ReadyHeld → Ready
ready_of steps r = ready_with (others_at steps r.place) r
