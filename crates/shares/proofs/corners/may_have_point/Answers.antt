use Rattle.std.proofs.Common.{sym, subst}
use Rattle.lin.specs.declared.span.Span1.{Span1}
use Rattle.plan.specs.Certificate.Cells.{grid_symbols}
use Rattle.shares.specs.Boxes.{AreLimited}
use Rattle.shares.proofs.Cornered.{no_point}
use Rattle.shares.proofs.corners.may_have_point.Goals as goal

pub may_have_number-requires-clause-limits : goal.may_have_number-requires-clause-limits
may_have_number-requires-clause-limits c =
    subst (λ (x : Span1). AreLimited x.lower × AreLimited x.upper) (sym c.span-item.is) (c.requires.limits c.loop-span.span-index c.span-item.result c.loop-span-test.true)

pub returns-then-not-may_have_number : goal.returns-then-not-may_have_number
returns-then-not-may_have_number c _ at between =
    no_point (grid_symbols at) c.args.region.now c.loop-span.span-index c.span-item.result c.loop-span-test.true c.span-item.is (c.may_have_number.ensures c.if-not-may_have_number.true at between)
