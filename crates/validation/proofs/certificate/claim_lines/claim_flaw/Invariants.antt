use Rattle.std.proofs.Common.{◌≡◌, drop, map}
use Rattle.plan.specs.View.{plan_of}
use Rattle.plan.specs.Certificate.Certificate.{certificate_of, claim_of}
use Rattle.algo.specs.View.{algorithm_of}
use Rattle.soundness.specs.Outline.Flaws.{first_of}
use Rattle.validation.specs.Certificate.Lines.{each_line}
use Rattle.validation.specs.Certificate.Certificate.{claim_flaws}
use Rattle.validation.proofs.certificate.claim_lines.claim_flaw.Given as goal

-- no line so far has a flaw
abbrev pub invariant-loop-index : goal.invariant-loop-index
invariant-loop-index l =
    let f = claim_flaws (algorithm_of l.algo) (plan_of l.plan) (certificate_of l.cert) in
    first_of (each_line f 0 (map claim_of l.cert.claims.items)) ≡ first_of (each_line f l.index (map claim_of (drop l.index l.cert.claims.items)))
