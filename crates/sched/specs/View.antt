-- What schedules say.
use Rattle.std.specs.Prelude.{map}
use Rattle.sched.specs.declared.schedule.Directive.{Directive}
use Rattle.sched.specs.declared.schedule.Directive.TheVariants.{ComputeRoot, ComputeAt, StoreAt, Fold, Split, Tile, Reorder, Unroll, Vectorize, Parallel}
use Rattle.sched.specs.declared.schedule.Scheduled.{Scheduled}
use Rattle.sched.specs.declared.schedule.Sched.{Sched}
use Rattle.sched.specs.Schedule.{DirectiveText, compute_root, compute_at, store_at, fold, split, tile, reorder, unroll, vectorize, parallel, ScheduledText, Schedule}

abbrev pub directive_of : Directive → DirectiveText
directive_of ComputeRoot = compute_root
directive_of (ComputeAt h) = compute_at h
directive_of (StoreAt h) = store_at h
directive_of (Fold f) = fold f
directive_of (Split s) = split s
directive_of (Tile t) = tile t
directive_of (Reorder loops) = reorder loops.items
directive_of (Unroll x) = unroll x
directive_of (Vectorize x) = vectorize x
directive_of (Parallel x) = parallel x

abbrev pub scheduled_of : Scheduled → ScheduledText
scheduled_of s = record { function = s.function; directives = map directive_of s.directives.items }

abbrev pub schedule_of : Sched → Schedule
schedule_of s = map scheduled_of s.functions.items
