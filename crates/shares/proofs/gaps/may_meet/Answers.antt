use Rattle.std.proofs.Common.{◌≡◌, sym, subst, List}
use Rattle.std.specs.Prelude.{IsTrue}
use Rattle.lin.specs.Forms.{Form, is_within_limits}
use Rattle.plan.specs.Certificate.Cells.{grid_symbols}
use Rattle.shares.specs.Boxes.{AreLimited}
use Rattle.shares.proofs.Gapped.{never_meets_at}
use Rattle.shares.proofs.gaps.may_meet.Goals as goal

pub may_reach-requires-clause-upper : goal.may_reach-requires-clause-upper
may_reach-requires-clause-upper c =
    let limited : AreLimited c.as_slice-uppers.result.now = subst AreLimited (sym c.as_slice-uppers.ensures) c.requires.limits.1 in
    subst (λ (f : Form). IsTrue (is_within_limits f)) (sym c.upper-item.is) (limited c.loop-upper.upper-index c.upper-item.result c.loop-upper-test.true)

pub may_reach-requires-clause-lowers : goal.may_reach-requires-clause-lowers
may_reach-requires-clause-lowers c = subst AreLimited (sym c.as_slice-lowers.ensures) c.requires.limits.0

pub returns-then-not-may_reach : goal.returns-then-not-may_reach
returns-then-not-may_reach c _ at between =
    never_meets_at (grid_symbols at) c.args.span.now c.as_slice-uppers.result.now c.as_slice-lowers.result.now c.as_slice-uppers.ensures c.as_slice-lowers.ensures
    c.loop-upper.upper-index c.upper-item.result c.loop-upper-test.true c.upper-item.is (c.may_reach.ensures c.if-not-may_reach.true at between)
