use Rattle.std.proofs.Common.{Option, sym, subst}
use Rattle.lin.specs.declared.span.Span1.{Span1}
use Rattle.sched.specs.Limited.{Gives}
use Rattle.sched.proofs.Taken.{freed_some}
use Rattle.sched.proofs.windows.freed.Goals as goal

pub returns-in-len1-up : goal.returns-in-len1-up
returns-in-len1-up c =
    subst (λ (o : Option Span1). Gives c.projected.result (λ x. x) o) (sym (freed_some c.args.scope.now c.args.inner.now c.args.span.now c.in-len1-up.len_at_least)) c.projected.ensures
