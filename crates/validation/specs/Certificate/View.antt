-- Parts in memory as such.
use Rattle.std.specs.Prelude.{Option, Some, None}
use Rattle.std.specs.Borrow.{Bor}
use Rattle.plan.specs.declared.plan.Group.{Group as GroupHeld}
use Rattle.plan.specs.Plan.{Group}
use Rattle.plan.specs.View.{group_of}
use Rattle.soundness.specs.Outline.View.{group_in}
use Rattle.validation.specs.Certificate.Placing.{Place}
use Rattle.validation.specs.Certificate.Ways.{spot_of}
use Rattle.validation.specs.declared.certificate.placed.Placed.{Placed}

abbrev pub group_held : Option (Bor GroupHeld) → Option Group
group_held None = None
group_held (Some g) = Some (group_of g.now)

abbrev pub place_of : Placed → Place
place_of x = record { group = group_in x.outlined.now; spot = spot_of x.spot }

abbrev pub place_held : Option Placed → Option Place
place_held None = None
place_held (Some x) = Some (place_of x)
