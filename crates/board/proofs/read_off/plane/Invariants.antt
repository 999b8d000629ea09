use Rattle.std.proofs.Common.{◌≡◌, ◌≢◌, ℕ, ◌+◌, ◌*◌, ◌<◌}
use Rattle.std.specs.Prelude.{slice_index}
use Rattle.board.proofs.read_off.plane.Given as goal

abbrev pub invariant-loop-pixel : goal.invariant-loop-pixel
invariant-loop-pixel l = record {
  colour : (k : ℕ) → k < l.pixel → slice_index l.samples (k * l.planes.colours + l.colour) ≡ slice_index l.bits (l.start + k);
  others : (k c : ℕ) → c < l.planes.colours → c ≢ l.colour → slice_index l.samples (k * l.planes.colours + c) ≡ slice_index l.initial.samples (k * l.planes.colours + c);
}
