use Rattle.soundness.specs.Binders.View.{binders_of}
use Rattle.tails.proofs.OfWindows.Loops.{from_here, from_later}
use Rattle.tails.proofs.windows.inner.+inside_from.Goals as goal

pub returns-then-is_loop : goal.returns-then-is_loop
returns-then-is_loop t c =
    from_here c.args.symbol c.args.rest.now c.first-item.result (binders_of c.args.inner.now)
    (binders_of c.inside_from.result.now) c.is_loop.result c.in-len1-up.len_at_least c.first-item.is c.is_loop.ensures c.if-is_loop.true
    c.inside_from.ensures

pub returns-else-is_loop : goal.returns-else-is_loop
returns-else-is_loop t c =
    from_later c.args.symbol c.args.rest.now c.first-item.result (binders_of c.args.inner.now)
    (binders_of c.inside_from-else-is_loop.result.now) c.is_loop.result c.in-len1-up.len_at_least c.first-item.is c.is_loop.ensures
    c.if-is_loop.false c.inside_from-else-is_loop.ensures
