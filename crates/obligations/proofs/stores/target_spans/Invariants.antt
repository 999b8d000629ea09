use Rattle.std.proofs.Common.{◌≡◌, take, map}
use Rattle.soundness.specs.Obligations.{target_span}
use Rattle.soundness.specs.Outline.View.{outline_in}
use Rattle.obligations.specs.Loads.{coordinates_of, known_in, names_in}
use Rattle.obligations.proofs.stores.target_spans.Given as goal

abbrev pub invariant-loop-coordinate : goal.invariant-loop-coordinate
invariant-loop-coordinate g l = l.places ≡ map (target_span (outline_in l.judge.outlined.now) (g.B.Bounds.rules l.judge.bounds.now) (known_in l.reads) (names_in l.reads) l.left) (coordinates_of (take l.coordinate-index l.reads.at.now))
