use Rattle.std.proofs.Common.{◌<◌, ◌^◌, sym, ◌∙◌, subst}
use Rattle.plan.specs.declared.stmt.Stmt.{Stmt}
use Rattle.plan.specs.View.{statement_of}
use Rattle.report.specs.Subject.{counted_of}
use Rattle.report.specs.Weighing.{all_weighed, IsWeighedTally}
use Rattle.report.proofs.Handing.{store_weighed}
use Rattle.report.proofs.Lines.{first_branch, later_branch}
use Rattle.report.proofs.Passing.{none_weighed}
use Rattle.report.proofs.Sums.{capped_small}
use Rattle.report.proofs.weighing.weighed_alone.Goals as goal

pub returns-then-counts_buffer : goal.returns-then-counts_buffer
returns-then-counts_buffer c =
    let x = counted_of c.args.subject.now in
    let known = c.args.known.now in
    let ws = all_weighed c.args.weighings.now in
    let k = c.in-Store in
    let small : x.enough < 2 ^ 64 = capped_small c.args.subject.now.enough in
    subst (λ (a : Stmt). IsWeighedTally x known ws (statement_of a) c.all_of.result) (sym k.is)
    (store_weighed x known ws _ c.all_of.result small (λ s. first_branch (x.buffer k.buffer) 1 0 (sym c.counts_buffer.ensures ∙ c.if-counts_buffer.true)) c.all_of.ensures)

pub returns-else-counts_buffer : goal.returns-else-counts_buffer
returns-else-counts_buffer c =
    let x = counted_of c.args.subject.now in
    let k = c.in-Store in
    subst (λ (a : Stmt). IsWeighedTally x c.args.known.now (all_weighed c.args.weighings.now) (statement_of a) 0) (sym k.is)
    (none_weighed x c.args.known.now (all_weighed c.args.weighings.now) _ (λ s. later_branch (x.buffer k.buffer) 1 0 (sym c.counts_buffer.ensures ∙ c.if-counts_buffer.false)))
