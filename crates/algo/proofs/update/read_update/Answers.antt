use Rattle.std.proofs.Common.{map, subst, List}
use Rattle.expr.specs.declared.statements.statement.Domain.{Domain}
use Rattle.expr.specs.Statements.View.{update_text, domain_text}
use Rattle.algo.specs.Parts.{names_of, functions_of, function_of}
use Rattle.algo.specs.Context.{only_input}
use Rattle.algo.specs.Keeping.{Breaks, OnLimit, DomainLimits, KeepsUpdateOver}
use Rattle.algo.specs.Faults.{DomainLimitAt, Tells, OnlyLimit, UpdateFaultAt}
use Rattle.algo.proofs.Answered.{breaks-weaker, limit_of}
use Rattle.algo.proofs.Placed.{limit_at, tells-weaker}
use Rattle.algo.proofs.update.read_update.Goals as goal

pub returns-in-Err-clause-refused : goal.returns-in-Err-clause-refused
returns-in-Err-clause-refused c =
    let a = only_input c.args.context.now.input.now in
    let declared = names_of c.args.context.now.declared.now in
    let before = functions_of c.args.before.now in
    let f = function_of c.args.own.now in
    let fs = functions_of c.args.context.now.functions.now in
    let s = update_text c.args.statement.now in
    breaks-weaker (OnLimit (DomainLimits s.domains)) (λ code. KeepsUpdateOver a declared before f fs code s) c.in-Err.error (limit_of a declared before f fs s)
    (subst (λ (ds : List Domain). Breaks (OnLimit (DomainLimits (map domain_text ds))) c.in-Err.error) c.deref-4.ensures.value c.in-Err.ensures.refused)

pub returns-in-Err-clause-place : goal.returns-in-Err-clause-place
returns-in-Err-clause-place c =
    let a = only_input c.args.context.now.input.now in
    let declared = names_of c.args.context.now.declared.now in
    let before = functions_of c.args.before.now in
    let f = function_of c.args.own.now in
    let fs = functions_of c.args.context.now.functions.now in
    let s = c.args.statement.now in
    tells-weaker (OnlyLimit (DomainLimitAt s.domains.items s.word)) (UpdateFaultAt a declared before f fs s) c.in-Err.error (limit_at a declared before f fs s)
    (subst (λ (ds : List Domain). Tells (OnlyLimit (DomainLimitAt ds s.word)) c.in-Err.error) c.deref-4.ensures.value c.in-Err.ensures.place)
