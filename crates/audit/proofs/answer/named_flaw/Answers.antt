use Rattle.algo.specs.View.{algorithm_of}
use Rattle.plan.specs.View.{plan_of}
use Rattle.plan.specs.Certificate.Certificate.{certificate_of}
use Rattle.audit.proofs.Told.{groups_told}
use Rattle.audit.proofs.answer.named_flaw.Goals as goal

pub returns-clause-told : goal.returns-clause-told
returns-clause-told c = groups_told (algorithm_of c.args.algo.now) (plan_of c.args.plan.now) (certificate_of c.args.cert.now) c.in_ok-found.found c.in_ok-found.ensures
