-- The work of a checked plan is sound.
use Rattle.std.proofs.Props.{props}
use Rattle.std.proofs.Math.Logic.{∥∥₁_elim}
use Rattle.crew.specs.Opening.Laws.{WorksAreSound}

pub works_sound : WorksAreSound
works_sound x samples given = ∥∥₁_elim x.ready (hlevel props) (λ ready. ∣ ready.sound samples given ∣₁)
