use Rattle.std.proofs.Common.{sym, subst}
use Rattle.lin.specs.declared.span.Span1.{Span1}
use Rattle.plan.specs.Certificate.Cells.{grid_symbols}
use Rattle.shares.specs.Boxes.{AreLimited}
use Rattle.shares.proofs.Cornered.{no_point}
use Rattle.shares.proofs.gaps.ends_may_meet.Goals as goal

pub may_meet-requires-clause-limits : goal.may_meet-requires-clause-limits
may_meet-requires-clause-limits c =
    subst (λ (x : Span1). AreLimited x.lower × AreLimited x.upper) (sym c.span-item.is) (c.requires.limits c.loop-span.span-index c.span-item.result c.loop-span-test.true)

pub returns-then-not-may_meet : goal.returns-then-not-may_meet
returns-then-not-may_meet c _ at between =
    no_point (grid_symbols at) c.args.region.now c.loop-span.span-index c.span-item.result c.loop-span-test.true c.span-item.is (c.may_meet.ensures c.if-not-may_meet.true at between)
