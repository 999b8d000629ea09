use Rattle.cert.proofs.Pieces.{claims_step}
use Rattle.cert.proofs.writing.put_claims.Goals as goal

pub loop-number-preserved : goal.loop-number-preserved
loop-number-preserved c =
    claims_step _ c.args.claims.now c.loop-number.number c.index-claims-number.result _ _ _ c.loop-number-test.true c.index-claims-number.is c.loop-number.invariant c.in_ok-put_claim.ensures c.in_ok-push_str.ensures.bytes
