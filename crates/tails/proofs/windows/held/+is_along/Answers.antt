use Rattle.std.proofs.Common.{arith}
use Rattle.std.proofs.lemmas.Bool.{ltb-true, ltb-false}
use Rattle.lin.proofs.Limits.{if_ok}
use Rattle.soundness.specs.Binders.View.{binders_of}
use Rattle.tails.proofs.OfWindows.Parts.{still_first, moving_first}
use Rattle.tails.proofs.windows.held.+is_along.Goals as goal

pub returns-then-is_still : goal.returns-then-is_still
returns-then-is_still g t c =
    if_ok c.is_along.result _ _
    (λ tells by. still_first (g.B.Bounds.rules c.args.bounds.now) (binders_of c.args.binders.now) c.args.window.now c.args.dimension c.args.region.now c.args.places.now c.span-item.result c.one-item.result
    (omega (arith, ltb-true, ltb-false)) c.span-item.is (omega (arith, ltb-true, ltb-false)) c.one-item.is c.in-Some.less c.is_still.result tells (binders_of c.inside.result.now)
    c.in-Some.ensures.0 c.in-Some.ensures.1 c.inside.ensures c.is_still.ensures c.if-is_still.true by)
    c.is_along.ensures

pub returns-in-None : goal.returns-in-None
returns-in-None g t c =
    if_ok c.moves_first.result _ _
    (λ tells by. moving_first (g.B.Bounds.rules c.args.bounds.now) (binders_of c.args.binders.now) c.args.window.now c.args.dimension c.args.region.now c.args.places.now c.span-item.result c.one-item.result
    (omega (arith, ltb-true, ltb-false)) c.span-item.is (omega (arith, ltb-true, ltb-false)) c.one-item.is tells (omega (arith, c.in-None.ensures)) by)
    c.moves_first.ensures
