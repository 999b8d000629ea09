use Rattle.algo.specs.View.{algorithm_of}
use Rattle.plan.specs.View.{plan_of}
use Rattle.plan.specs.Certificate.Certificate.{certificate_of}
use Rattle.audit.specs.Stand.{AreShown, IsFlaw}
use Rattle.audit.proofs.Told.{none_of, regions_clear}
use Rattle.audit.proofs.answer.shares_where_named.Goals as goal

pub returns-in_ok-shares-in-None-clause-accepted : goal.returns-in_ok-shares-in-None-clause-accepted
returns-in_ok-shares-in-None-clause-accepted c =
    let a = algorithm_of c.args.algo.now in
    let p = plan_of c.args.plan.now in
    let d = certificate_of c.args.cert.now in
    let shown = none_of c.args.owed (AreShown a p d) (IsFlaw a p d) c.requires.owed c.in-None.is in
    record {
      head = c.requires.head;
      groups = c.requires.groups;
      widths = shown.narrow;
      shown = shown.met;
      certificate = c.requires.certificate;
      shares = c.in_ok-shares-in-None.ensures.shares;
      output = c.in_ok-shares-in-None.ensures.output;
    }

pub shares_with_output-requires-clause-regions : goal.shares_with_output-requires-clause-regions
shares_with_output-requires-clause-regions c = regions_clear (algorithm_of c.args.algo.now) (plan_of c.args.plan.now) (certificate_of c.args.cert.now) c.requires.certificate

pub told_with_shares-requires-clause-regions : goal.told_with_shares-requires-clause-regions
told_with_shares-requires-clause-regions c = regions_clear (algorithm_of c.args.algo.now) (plan_of c.args.plan.now) (certificate_of c.args.cert.now) c.requires.certificate
