use Rattle.std.proofs.Common.{◌≡◌, ◌≢◌, ℕ, ◌+◌, ◌*◌, ◌<◌}
use Rattle.std.specs.Prelude.{slice_index}
use Rattle.std.specs.Slots.{slots_items}
use Rattle.board.proofs.shown.show_plane.Given as goal

abbrev pub invariant-loop-pixel : goal.invariant-loop-pixel
invariant-loop-pixel l = record {
  colour : (k : ℕ) → k < l.pixel → slice_index l.samples (k * l.planes.colours + l.colour) + 1 ≡ slice_index (slots_items l.closed.words) (l.start + k);
  others : (k c : ℕ) → c < l.planes.colours → c ≢ l.colour → slice_index l.samples (k * l.planes.colours + c) ≡ slice_index l.initial.samples (k * l.planes.colours + c);
}
