use Rattle.std.proofs.Common.{◌≡◌, map, take}
use Rattle.plan.specs.View.{plan_of}
use Rattle.validation.specs.Certificate.Counted.{group_counted}
use Rattle.validation.proofs.certificate.placed.outlines_of.Given as goal

-- the groups so far
abbrev pub invariant-loop-number : goal.invariant-loop-number
invariant-loop-number l = map group_counted l.all.items ≡ take l.number (plan_of l.plan).groups
