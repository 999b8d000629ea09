use Rattle.plan.specs.View.{plan_of}
use Rattle.plan.specs.Certificate.Certificate.{certificate_of}
use Rattle.shares.proofs.Counting.{stops_fetching, stops_needing}
use Rattle.shares.proofs.lists.looks_at.Goals as goal

pub returns-in-Err-clause-stop : goal.returns-in-Err-clause-stop
returns-in-Err-clause-stop c = stops_fetching (plan_of c.args.layout.now.plan.now) (certificate_of c.args.layout.now.cert.now) c.args.piece c.args.cells c.args.pieces c.in-Err.stop c.in-Err.ensures.stop

pub returns-in-Err-needs_of-clause-stop : goal.returns-in-Err-needs_of-clause-stop
returns-in-Err-needs_of-clause-stop c = stops_needing (plan_of c.args.layout.now.plan.now) (certificate_of c.args.layout.now.cert.now) c.args.piece c.args.cells c.args.pieces c.in-Err-needs_of.stop c.in-Err-needs_of.ensures.stop
