use Rattle.std.proofs.Common.{◌≡◌, drop}
use Rattle.plan.specs.View.{plan_of}
use Rattle.plan.specs.Certificate.Certificate.{certificate_of}
use Rattle.soundness.specs.Outline.Flaws.{first_of}
use Rattle.validation.specs.Certificate.Lines.{each_line}
use Rattle.validation.specs.Certificate.Certificate.{own_flaws}
use Rattle.validation.proofs.certificate.own_lines.own_flaw.Given as goal

-- no line so far has a flaw
abbrev pub invariant-loop-index : goal.invariant-loop-index
invariant-loop-index l =
    let f = own_flaws (plan_of l.plan) (certificate_of l.cert) in
    first_of (each_line f 0 l.cert.own.items) ≡ first_of (each_line f l.index (drop l.index l.cert.own.items))
