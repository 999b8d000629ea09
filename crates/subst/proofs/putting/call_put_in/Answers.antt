use Rattle.subst.proofs.Tables.{large_body}
use Rattle.subst.proofs.putting.call_put_in.Goals as goal

pub returns-in-None : goal.returns-in-None
returns-in-None c = large_body c.args.body.now c.args.held.now c.in-None.is
