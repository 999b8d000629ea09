-- The nests of a function that is computed inside loops, where its loops are split: the loops that the schedule left, in its order, with their marks, and behind each of
-- them what its splits put there.
-- What crates below need of it stands there: `sched`, `blocks`.
use Rattle.std.specs.Prelude.{List, [], ◌∷◌, Option}
use Rattle.lin.specs.declared.scope.Binding.{Binding}
use Rattle.lin.specs.declared.span.Span1.{Span1}
use Rattle.sched.specs.declared.schedule.Split.{Split}
use Rattle.sched.specs.Skeleton.{NestText}
use Rattle.sched.specs.Standing.{◌>>=◌}
use Rattle.blocks.specs.declared.counting.Blocks.{Blocks}
use Rattle.sched.specs.Stored.{FormulaText, StoredText}
use Rattle.regions.specs.Regions.{bodies_from}
use Rattle.regions.specs.Turned.{whole_nests}
use Rattle.blocks.specs.Parted.{nests_from}

-- the nests of a function whose definitions these are
abbrev pub parted_nests : StoredText → List FormulaText → List Binding → List Span1 → List Span1 → List (Option Blocks) → Option (List NestText)
parted_nests g fs scope region kept bs = nests_from g scope region kept bs 0 (bodies_from g.changes 0 g.subject.reductions fs)

-- ---- all nests

abbrev pub nests_by : List Split → StoredText → List FormulaText → List Binding → List Span1 → List Span1 → Option (List NestText)
nests_by [] g fs scope region kept = whole_nests g fs scope region
nests_by (c ∷ cs) g fs scope region kept = parted_nests g fs scope region kept []

-- the nests of a function over a region, of which this is kept: where none of its loops is split, they are these over what is needed
abbrev pub nests_over : StoredText → List FormulaText → List Binding → List Span1 → List Span1 → Option (List NestText)
nests_over g fs scope region kept = nests_by g.placed.cuts g fs scope region kept

-- if it is told what is kept
abbrev pub nests_kept : StoredText → List FormulaText → List Binding → List Span1 → Option (List Span1) → Option (List NestText)
nests_kept g fs scope region o = o >>= λ kept. nests_over g fs scope region kept
