use Rattle.algo.specs.View.{algorithm_of}
use Rattle.plan.specs.View.{plan_of}
use Rattle.plan.specs.Certificate.Certificate.{certificate_of}
use Rattle.audit.proofs.Told.{owed_first, owed_told}
use Rattle.audit.proofs.answer.owed_flaw.Goals as goal

pub returns : goal.returns
returns g c =
    owed_told (algorithm_of c.args.algo.now) (plan_of c.args.plan.now) (certificate_of c.args.cert.now) c.in_ok-wide.wide c.in_ok-owed.owed c.wide_or_owed.result
    c.in_ok-wide.ensures.told c.in_ok-wide.ensures.first c.in_ok-owed.ensures c.wide_or_owed.ensures

pub returns-in-Some : goal.returns-in-Some
returns-in-Some g c =
    owed_first (algorithm_of c.args.algo.now) (plan_of c.args.plan.now) (certificate_of c.args.cert.now) c.in_ok-owed.owed c.in-Some.flaw c.in_ok-owed.ensures c.in-Some.ensures.is
    c.in-Some.ensures.leaves
