use Rattle.std.proofs.Common.{◌<◌, refl}
use Rattle.algo.specs.View.{algorithm_of}
use Rattle.plan.specs.View.{plan_of}
use Rattle.plan.specs.Certificate.Certificate.{certificate_of}
use Rattle.shares.specs.Early.{FetchIsWrong}
use Rattle.audit.proofs.shared.fetch_flaw_before_broken.Goals as goal

pub fetch_flaw_before-requires : goal.fetch_flaw_before-requires
fetch_flaw_before-requires c = c.fetches_are_read.ensures (algorithm_of c.args.algo.now) (plan_of c.args.plan.now) (certificate_of c.args.cert.now) c.args.broken c.requires

pub returns-in-Some : goal.returns-in-Some
returns-in-Some c =
    let told : FetchIsWrong (plan_of c.args.plan.now) c.in-Some.line × (c.in-Some.line < c.args.broken.line) = rw c.in-Some.is at c.in_ok-found.ensures in
    record { code_is = refl; wrong = told.0; before = told.1 }
