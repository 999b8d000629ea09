use Rattle.std.proofs.Common.{◌≡◌, ◌<◌, ℕ, Some}
use Rattle.std.specs.Prelude.{slice_get}
use Rattle.plan.specs.Certificate.Cells.{grid_symbols}
use Rattle.shares.specs.declared.seats.Seat.{Seat}
use Rattle.shares.specs.Lets.{AreNear, namings_of}
use Rattle.shares.proofs.far.is_far.Given as goal

abbrev pub invariant-loop-seat : goal.invariant-loop-seat
invariant-loop-seat l = (i : ℕ) (s : Seat) → i < l.seat-index → slice_get l.seats i ≡ Some s → s.group ≡ l.line.group → AreNear (namings_of l.line.lets.items) (grid_symbols s.at.items)
