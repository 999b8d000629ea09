use Rattle.std.proofs.Common.{sym, arith}
use Rattle.rules.proofs.Binders.{count_more}
use Rattle.rules.proofs.bounding.scope.symbol_count.Goals as goal

pub loop-binder-preserved : goal.loop-binder-preserved
loop-binder-preserved c =
    let more = count_more c.args.binders.now c.loop-binder.binder-index c.binder-item.result c.loop-binder-test.true (sym c.binder-item.is) in
    let own = c.end_of.ensures in
    let largest = c.max-count.ensures in
    let before = c.loop-binder.invariant in
    omega (arith, more, own, largest, before)
