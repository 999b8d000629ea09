-- What loops, nests and ranges in memory are.
use Rattle.std.specs.Prelude.{List, map, Option, Some, None}
use Rattle.std.specs.Borrow.{Bor}
use Rattle.meaning.specs.Algorithm.{Range, Change, Function}
use Rattle.algo.specs.declared.function.Range.{Range as RangeHeld}
use Rattle.algo.specs.declared.function.Update.{Update as UpdateHeld}
use Rattle.algo.specs.Parts.{range_of, change_of}
use Rattle.plan.specs.Plan.{Coordinate}
use Rattle.plan.specs.View.{coordinate_of, statement_of}
use Rattle.plan.specs.declared.stmt.Coordinate.{Coordinate as CoordinateHeld}
use Rattle.soundness.specs.Nests.Nest.{Loop, Nest}
use Rattle.rules.specs.declared.nests.lines.PlainLoop.{PlainLoop}
use Rattle.rules.specs.declared.nests.lines.Nested.{Nested}

-- a loop
abbrev pub loop_of : PlainLoop → Loop
loop_of l = record { symbol = l.symbol; span = l.span.now }

abbrev pub loops_of : List PlainLoop → List Loop
loops_of = map loop_of

-- a line and the loops round it
abbrev pub nest_held : Nested → Nest
nest_held n = record { loops = loops_of n.loops.items; line = statement_of n.line.now }

-- the coordinates of a store
abbrev pub coordinates_of : List CoordinateHeld → List Coordinate
coordinates_of = map coordinate_of

-- the ranges of a reduction domain
abbrev pub ranges_of : List RangeHeld → List Range
ranges_of = map range_of

abbrev pub ranges_held : Option (Bor (List RangeHeld)) → Option (List Range)
ranges_held None = None
ranges_held (Some ds) = Some (ranges_of ds.now)

-- the updates of a function
abbrev pub changes_in : Option Function → Option (List Change)
changes_in None = None
changes_in (Some f) = Some f.changes

abbrev pub updates_held : Option (Bor (List UpdateHeld)) → Option (List Change)
updates_held None = None
updates_held (Some us) = Some (map change_of us.now)
