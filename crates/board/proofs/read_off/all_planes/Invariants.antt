use Rattle.std.proofs.Common.{◌≡◌, ℕ, ◌+◌, ◌*◌, ◌<◌}
use Rattle.std.specs.Prelude.{slice_index}
use Rattle.board.proofs.read_off.all_planes.Given as goal

abbrev pub invariant-loop-colour : goal.invariant-loop-colour
invariant-loop-colour l = (k c : ℕ) → k < l.planes.pixels → c < l.colour → slice_index l.samples (k * l.planes.colours + c) ≡ slice_index l.bits (l.planes.first + c * l.planes.pixels + k)
