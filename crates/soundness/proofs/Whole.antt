-- A private run from the beginning of a piece.
use Rattle.std.proofs.Common.{refl}
use Rattle.plan.specs.Semantics.Actions.{actions}
use Rattle.plan.specs.Semantics.Memory.{Memory, nothing}
use Rattle.soundness.specs.Origins.{Origin}
use Rattle.soundness.specs.Right.{PrivateRunsAreRight, at_start}
use Rattle.soundness.proofs.Refines.{steps}
use Rattle.soundness.proofs.Sound.{sound}

pub whole : PrivateRunsAreRight
whole around given body line s suits right h =
    let t : Memory Origin = nothing in
    let runs = sound given body line (at_start s) t h (record { has = λ b rs e. absurd (cc e); hold = tt }) in
    steps around given suits (actions given.outline.setting body s) nothing t runs.fine right
    (record { rooms = λ b. refl; held = λ b q o e. absurd (cc e); placed = λ b q o e. absurd (cc e) })
