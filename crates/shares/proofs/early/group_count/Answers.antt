use Rattle.std.proofs.Common.{◌<◌, ◌+◌, [], arith, inl, inr}
use Rattle.std.proofs.lemmas.Bool.{cases_lt}
use Rattle.shares.specs.Noted.{lines_noted}
use Rattle.shares.proofs.Ahead.{count_more, none_of_any}
use Rattle.shares.proofs.Passing.{of_line}
use Rattle.shares.proofs.early.group_count.Goals as goal

pub loop-line-init : goal.loop-line-init
loop-line-init c = record { count = none_of_any (lines_noted c.args.lines.now); most = omega arith }

pub overflow_add-line : goal.overflow_add-line
overflow_add-line c =
    let below = of_line [] c.args.lines.now c.loop-line.line-index c.line-item.result c.loop-line-test.true c.line-item.is (λ x. x.group < c.args.groups) c.requires in
    let fits = c.ranges.groups.fits in
    omega (arith, below, fits)

pub loop-line-preserved : goal.loop-line-preserved
loop-line-preserved c =
    let held = c.args.lines.now in
    let k = c.loop-line.line-index in
    let x = c.line-item.result in
    let below = of_line [] held k x c.loop-line-test.true c.line-item.is (λ x. x.group < c.args.groups) c.requires in
    let count = c.loop-line.count in
    let now = c.max-count.result in
    let m = c.max-count.ensures in
    let most = c.loop-line.invariant.most in
    record {
      count = count_more held k x c.loop-line-test.true c.line-item.is count now (omega (arith, m)) (omega (arith, m))
          (elim (cases_lt count (x.group + 1)) [
            | inl less ↦ inr (omega (arith, m, less))
            | inr from ↦ inl (omega (arith, m, from))
          ])
          c.loop-line.invariant.count;
      most = omega (arith, m, most, below);
    }
