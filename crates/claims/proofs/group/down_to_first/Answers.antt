use Rattle.claims.proofs.Firsts.{earlier_place}
use Rattle.claims.proofs.group.down_to_first.Goals as goal

pub loop-earlier-smaller : goal.loop-earlier-smaller
loop-earlier-smaller c =
    earlier_place c.args.bounds.now.bounds c.loop-earlier.found c.in_ok-earlier.field-0 c.in-Some.earlier c.in_ok-earlier.ensures c.in-Some.is
