use Rattle.std.proofs.Common.{◌≡◌, drop}
use Rattle.std.specs.Prelude.{flat_map}
use Rattle.soundness.specs.Obligations.{coordinate_loads}
use Rattle.soundness.specs.Outline.View.{outline_in}
use Rattle.obligations.specs.Asked.{first_unmet}
use Rattle.obligations.specs.Loads.{coordinates_of, known_in, names_in, may_in, meets_in}
use Rattle.obligations.proofs.stores.unmet_targets.Given as goal

abbrev pub invariant-loop-coordinate : goal.invariant-loop-coordinate
invariant-loop-coordinate g l = first_unmet (g.B.Bounds.rules l.judge.bounds.now) (g.T.NestTests.nests l.judge.tests.now) l.judge.part (flat_map (coordinate_loads (outline_in l.judge.outlined.now) (g.B.Bounds.rules l.judge.bounds.now) l.reads.line (known_in l.reads) (may_in (outline_in l.judge.outlined.now) (g.B.Bounds.rules l.judge.bounds.now) l.reads) (meets_in (outline_in l.judge.outlined.now) (g.B.Bounds.rules l.judge.bounds.now) l.reads) (names_in l.reads) l.left) (coordinates_of l.reads.at.now)) ≡ first_unmet (g.B.Bounds.rules l.judge.bounds.now) (g.T.NestTests.nests l.judge.tests.now) l.judge.part (flat_map (coordinate_loads (outline_in l.judge.outlined.now) (g.B.Bounds.rules l.judge.bounds.now) l.reads.line (known_in l.reads) (may_in (outline_in l.judge.outlined.now) (g.B.Bounds.rules l.judge.bounds.now) l.reads) (meets_in (outline_in l.judge.outlined.now) (g.B.Bounds.rules l.judge.bounds.now) l.reads) (names_in l.reads) l.left) (coordinates_of (drop l.coordinate-index l.reads.at.now)))
