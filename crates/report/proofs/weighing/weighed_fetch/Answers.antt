use Rattle.std.proofs.Common.{◌<◌, ◌^◌, sym, ◌∙◌}
use Rattle.report.specs.Subject.{counted_of}
use Rattle.report.specs.Weighing.{all_weighed}
use Rattle.report.proofs.Handing.{fetch_weighed, fetched_none}
use Rattle.report.proofs.Sums.{capped_small}
use Rattle.report.proofs.weighing.weighed_fetch.Goals as goal

pub returns-then-not-counts_group : goal.returns-then-not-counts_group
returns-then-not-counts_group c =
    fetched_none (counted_of c.args.subject.now) c.args.known.now (all_weighed c.args.weighings.now) c.args.buffer c.args.group c.args.region.now
    (sym c.counts_group.ensures ∙ c.if-not-counts_group.true)

pub returns : goal.returns
returns c =
    let x = counted_of c.args.subject.now in
    let small : x.enough < 2 ^ 64 = capped_small c.args.subject.now.enough in
    fetch_weighed x c.args.known.now (all_weighed c.args.weighings.now) c.args.buffer c.args.group c.args.region.now
    c.in_ok-count.count c.all_of.result c.saturating_mul.result small (sym c.counts_group.ensures ∙ c.if-not-counts_group.false)
    c.in_ok-count.ensures.holds c.all_of.ensures c.saturating_mul.ensures
