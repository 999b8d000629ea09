-- What is left of steps, with the spans so far, in memory.
use Rattle.tails.specs.Moves.{State}
use Rattle.tails.specs.Held.{pendings_of}
use Rattle.tails.specs.declared.moves.State.{State as StateHeld}

abbrev pub state_of : StateHeld → State
state_of s = record { steps = pendings_of s.steps.items; spans = s.spans }
