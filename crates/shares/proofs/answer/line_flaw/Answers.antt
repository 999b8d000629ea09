use Rattle.plan.specs.Plan.{Plan}
use Rattle.plan.specs.View.{plan_of}
use Rattle.plan.specs.Certificate.Certificate.{Certificate, certificate_of}
use Rattle.shares.proofs.Standing.{first_line}
use Rattle.shares.proofs.answer.line_flaw.Goals as goal

pub returns : goal.returns
returns c =
    let x = c.args.layout.now in
    let p : Plan = plan_of x.plan.now in
    let cert : Certificate = certificate_of x.cert.now in
    first_line p cert c.in_ok-fetched.fetched c.in_ok-own.own c.least.result c.in_ok-fetched.ensures c.in_ok-own.ensures c.least.ensures
