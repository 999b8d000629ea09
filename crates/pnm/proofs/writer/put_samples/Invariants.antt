use Rattle.std.proofs.Common.{◌≡◌, ◌≤◌, ◌*◌, take, length}
use Rattle.std.specs.List.{flat_map}
use Rattle.pnm.specs.Text.{sample_bytes}
use Rattle.pnm.proofs.writer.put_samples.Given as goal

abbrev pub invariant-loop-sample : goal.invariant-loop-sample
invariant-loop-sample l =
    (take l.at l.out ≡ flat_map (sample_bytes l.ty) (take l.sample-index l.samples))
    × (l.at ≤ 2 * l.sample-index)
    × (length l.out ≡ length l.fn.out)
