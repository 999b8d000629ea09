use Rattle.plan.specs.Plan.{Plan}
use Rattle.plan.specs.View.{plan_of}
use Rattle.plan.specs.Certificate.Certificate.{Certificate, certificate_of}
use Rattle.shares.specs.Owned.{AreOwners}
use Rattle.shares.proofs.Parted.{each_is_parted}
use Rattle.shares.proofs.own.is_parted.Goals as goal

pub returns-then-owned : goal.returns-then-owned
returns-then-owned c full =
    let x = c.args.layout.now in
    let p : Plan = plan_of x.plan.now in
    let cert : Certificate = certificate_of x.cert.now in
    let of : AreOwners p cert c.in-Ok.owned = rw c.in-Ok.is at c.requires.owned in
    each_is_parted p cert c.in-Ok.owned of c.if-owned.true full
