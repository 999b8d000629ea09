use Rattle.plan.specs.View.{plan_of}
use Rattle.plan.specs.Certificate.Certificate.{certificate_of}
use Rattle.validation.specs.Certificate.Certificate.{flaws_of_regions}
use Rattle.audit.proofs.Told.{first_known}
use Rattle.audit.proofs.answer.region_flaw.Goals as goal

pub returns-clause-known : goal.returns-clause-known
returns-clause-known c = first_known (flaws_of_regions (plan_of c.args.plan.now) (certificate_of c.args.cert.now)) c.in_ok-found.found c.in_ok-found.ensures
