use Rattle.std.proofs.Common.{◌≡◌, ℕ, ◌+◌, ◌*◌, ◌<◌}
use Rattle.std.specs.Prelude.{slice_index}
use Rattle.std.specs.Slots.{slots_items}
use Rattle.board.proofs.shown.show_planes.Given as goal

abbrev pub invariant-loop-colour : goal.invariant-loop-colour
invariant-loop-colour l =
    (k c : ℕ) → k < l.planes.pixels → c < l.colour → slice_index l.samples (k * l.planes.colours + c) + 1 ≡ slice_index (slots_items l.closed.words) (l.start + c * l.planes.pixels + k)
