use Rattle.std.proofs.Common.{map, take, Bor}
use Rattle.plan.specs.declared.certificate.cert.Need.{Need}
use Rattle.shares.specs.Repeated.{AreOuterOf}
use Rattle.shares.proofs.repeated.outer_lines.Given as goal

abbrev pub invariant-loop-need : goal.invariant-loop-need
invariant-loop-need l = AreOuterOf (map (λ (n : Bor Need). n.now) l.kept.items) (map (λ (n : Bor Need). n.now) (take l.need-index l.lines))
