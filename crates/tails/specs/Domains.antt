-- What the updates and the reduction domains of an algorithm in memory are.
use Rattle.std.specs.Prelude.{List, map, Option, Some, None}
use Rattle.std.specs.Borrow.{Bor}
use Rattle.meaning.specs.Algorithm.{Range, Change, Function}
use Rattle.algo.specs.declared.function.Range.{Range as RangeHeld}
use Rattle.algo.specs.declared.function.Update.{Update as UpdateHeld}
use Rattle.algo.specs.Parts.{range_of, change_of}

-- the ranges of a reduction domain
abbrev pub ranges_of : List RangeHeld → List Range
ranges_of = map range_of

abbrev pub ranges_held : Option (Bor (List RangeHeld)) → Option (List Range)
ranges_held None = None
ranges_held (Some ds) = Some (ranges_of ds.now)

-- the updates of a function
abbrev pub changes_in : Option Function → Option (List Change)
changes_in None = None
changes_in (Some f) = Some f.changes

abbrev pub updates_held : Option (Bor (List UpdateHeld)) → Option (List Change)
updates_held None = None
updates_held (Some us) = Some (map change_of us.now)
