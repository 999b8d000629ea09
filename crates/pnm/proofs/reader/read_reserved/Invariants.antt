use Rattle.std.proofs.Common.{◌≡◌, ◌≤◌, ◌+◌, false, length}
use Rattle.std.specs.Prelude.{vec_capacity}
use Rattle.pnm.specs.Reading.{in_raster}
use Rattle.pnm.specs.Source.{LeadsOn}
use Rattle.pnm.proofs.reader.read_reserved.Given as goal

abbrev pub invariant-loop-left : goal.invariant-loop-left
invariant-loop-left g l =
    LeadsOn (g.S.Source.remaining l.fn.source) (g.S.Source.remaining l.source) (in_raster l.fn.left) l.fn.samples.items (in_raster l.left) l.samples.items
    × (g.S.Source.has_failed l.source ≡ false)
    × (g.S.Source.identity l.source ≡ g.S.Source.identity l.fn.source)
    × (length l.samples.items + l.left ≤ vec_capacity l.samples)

abbrev pub decreases-loop-left : goal.decreases-loop-left
decreases-loop-left g l = l.left
