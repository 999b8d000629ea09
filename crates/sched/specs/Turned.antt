-- The loops of a function that is computed inside loops, over what is needed of it, where none of its loops is split: those that its definitions have, in their order,
-- with their marks; the loops of a reduction inside of them, the last variable outermost.
use Rattle.std.specs.Prelude.{◌+◌, Bool, not, ◌&&◌, if◌then◌else◌, List, [], ◌∷◌, ◌++◌, Option, Some, None}
use Rattle.bounds.specs.Spans.{numbers}
use Rattle.plan.specs.declared.stmt.Kind.{Kind}
use Rattle.plan.specs.declared.stmt.Kind.TheVariants.{Serial, Unroll, Vector}
use Rattle.sched.specs.declared.placing.Loop.{Loop}
use Rattle.sched.specs.declared.placing.Mark.{Mark}
use Rattle.sched.specs.declared.placing.Mark.TheVariants as mark
use Rattle.sched.specs.declared.nest.Turning.{Turning}
use Rattle.sched.specs.Placing.{is_vectorized}
use Rattle.sched.specs.Skeleton.{BodyText, is_missing}
use Rattle.sched.specs.declared.ends.Run.{Run}

-- ---- loops

abbrev pub kind_of : Option Mark → Kind
kind_of None = Serial
kind_of (Some mark.Unrolled) = Unroll
kind_of (Some mark.Vectorized) = Vector
kind_of (Some mark.Parallel) = Serial

-- the definition has the loop, and it is one of the vectorised ones, or one of the others
abbrev pub is_run : BodyText → Bool → Loop → Bool
is_run b lanes l = not (is_missing b l.dimension) && (if lanes then is_vectorized l else not (is_vectorized l))

abbrev pub range_run : Turning → Run
range_run t = record { name = t.name; span = numbers t.low t.last; kind = t.kind }

abbrev pub range_runs : List Turning → List Run
range_runs [] = []
range_runs (t ∷ ts) = range_runs ts ++ range_run t ∷ []
