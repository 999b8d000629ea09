use Rattle.std.proofs.Common.{map, take, Bor}
use Rattle.plan.specs.View.{plan_of}
use Rattle.plan.specs.declared.certificate.cert.Need.{Need}
use Rattle.shares.specs.Gathered.{AreGathered}
use Rattle.shares.proofs.gathered.group_needs.Given as goal

abbrev pub invariant-loop-need : goal.invariant-loop-need
invariant-loop-need l = AreGathered (plan_of l.layout.plan.now) l.fn.group (map (λ (n : Bor Need). n.now) (take l.need-index l.lines)) l.numbers.items (map (λ (n : Bor Need). n.now) l.moving.items)
