use Rattle.std.proofs.Common.{◌≡◌, ◌+◌, ◌-◌, ◌^◌, ◌<◌, ◌≤◌, length}
use Rattle.plan.specs.View.{plan_of}
use Rattle.plan.specs.Certificate.Certificate.{certificate_of}
use Rattle.plan.specs.Certificate.Cells.{pieces}
use Rattle.shares.specs.Counts.{with_needs}
use Rattle.shares.specs.Has.{needed_before}
use Rattle.shares.proofs.limits.need_past.Given as goal

abbrev pub invariant-loop-low : goal.invariant-loop-low
invariant-loop-low l = record {
  apart : l.low < l.high;
  within : l.high ≤ length l.layout.cert.now.needs.items;
  few : needed_before (plan_of l.layout.plan.now) (with_needs (certificate_of l.layout.cert.now) l.low) (length (pieces (plan_of l.layout.plan.now))) ≤ 2 ^ 24;
  many : 2 ^ 24 < needed_before (plan_of l.layout.plan.now) (with_needs (certificate_of l.layout.cert.now) l.high) (length (pieces (plan_of l.layout.plan.now)));
}

abbrev pub decreases-loop-low : goal.decreases-loop-low
decreases-loop-low l = l.high - l.low
