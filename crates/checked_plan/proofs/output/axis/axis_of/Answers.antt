use Rattle.checked_plan.proofs.Spans.{count_fits, axis_is}
use Rattle.checked_plan.proofs.output.axis.axis_of.Goals as goal

pub overflow_cast-count : goal.overflow_cast-count
overflow_cast-count c =
    count_fits c.args.span.now c.low_end-low.result c.high_end-high.result c.requires
    (record { low_is = c.low_end-low.ensures; high_is = c.high_end-high.ensures })

pub returns : goal.returns
returns c =
    axis_is c.args.span.now c.low_end-low.result c.high_end-high.result c.requires
    (record { low_is = c.low_end-low.ensures; high_is = c.high_end-high.ensures })
