use Rattle.std.proofs.Common.{◌≡◌, List, Some, sym, ap, ◌∙◌}
use Rattle.plan.specs.declared.stmt.Stmt.{Stmt}
use Rattle.plan.specs.Plan.{Statement, block}
use Rattle.plan.specs.Lists.{list_statements}
use Rattle.plan.specs.View.{statement_of}
use Rattle.plan.proofs.Rows.{statement_of-seq}
use Rattle.plan.specs.Semantics.Setting.{allocated, block_allocated}
use Rattle.report.specs.Subject.{named}
use Rattle.report.proofs.Named.{block_here, first_named}
use Rattle.report.proofs.subject.+allocated.Goals as goal

pub function_of-returns-in-Seq : goal.function_of-returns-in-Seq
function_of-returns-in-Seq t c =
    let b = c.args.buffer in
    c.function_in_block.ensures
    ∙ ap (λ (l : List Stmt). named (block_allocated (block (list_statements l)) b)) c.deref.ensures.value
    ∙ ap (λ (a : Statement). named (allocated a b)) (sym (statement_of-seq c.in-Seq.all))
    ∙ ap (λ (a : Stmt). named (allocated (statement_of a) b)) (sym c.in-Seq.is)

pub function_of-returns-in-Some : goal.function_of-returns-in-Some
function_of-returns-in-Some t c =
    let b = c.args.buffer in
    let here : Some c.in-Some.name.now ≡ named (allocated (statement_of c.in-First.first.value) b) =
    c.in-Some.ensures ∙ ap (λ (a : Stmt). named (allocated (statement_of a) b)) c.deref-in-First.ensures in
    first_named (allocated (statement_of c.in-First.first.value) b) (allocated (statement_of c.in-First.later.value) b) c.in-Some.name.now here
    ∙ ap (λ (a : Stmt). named (allocated (statement_of a) b)) (sym c.in-First.is)

pub function_in_block-returns-in-Some : goal.function_in_block-returns-in-Some
function_in_block-returns-in-Some t c =
    block_here c.args.all.now c.args.buffer c.loop-stmt.stmt-index c.stmt-item.result _ _ c.loop-stmt-test.true c.stmt-item.is c.loop-stmt.invariant c.in-Some.ensures
