use Rattle.std.proofs.Common.{◌≡◌, take, map}
use Rattle.plan.specs.Certificate.Certificate.{claim_of}
use Rattle.plan.proofs.certificate.copying.copy_claims.Given as goal

abbrev pub invariant-loop-one : goal.invariant-loop-one
invariant-loop-one l = map claim_of l.copied.items ≡ map claim_of (take l.one-index l.all)
