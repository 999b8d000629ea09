use Rattle.report.proofs.Turns.{points_first}
use Rattle.report.proofs.Lines.{span_narrow, rest_narrow}
use Rattle.report.proofs.counting.+points_in.Goals as goal

pub returns-clause-holds : goal.returns-clause-holds
returns-clause-holds t c = λ s allows narrow.
    let region = c.args.region.now in
    let some = c.in-len1-up.len_at_least in
    let ends = c.in_ok-ends.ensures.holds s allows (span_narrow s region c.span-item.result some c.span-item.is narrow) in
    let behind = c.in_ok-count.ensures.holds s allows (rest_narrow s region some narrow) in
    points_first s region c.span-item.result c.in_ok-ends.ends c.in_ok-count.count c.count_of.result c.saturating_mul.result some c.span-item.is ends behind c.count_of.ensures c.saturating_mul.ensures
