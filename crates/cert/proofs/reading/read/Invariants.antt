use Rattle.std.proofs.Common.{length}
use Rattle.plan.specs.Certificate.Certificate.{certificate_of}
use Rattle.cert.proofs.Turns.{IsRead}
use Rattle.cert.proofs.reading.read.Given as goal

abbrev pub invariant-loop-bytes : goal.invariant-loop-bytes
invariant-loop-bytes l = IsRead l.first_line l.text l.rest l.number l.last (certificate_of l.certificate)

abbrev pub decreases-loop-bytes : goal.decreases-loop-bytes
decreases-loop-bytes l = length l.rest
