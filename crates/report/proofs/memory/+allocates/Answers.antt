use Rattle.std.proofs.Common.{List, sym, ap, ◌∙◌, true}
use Rattle.plan.specs.declared.stmt.Stmt.{Stmt}
use Rattle.plan.specs.Plan.{Statement, Seq, block}
use Rattle.plan.specs.Lists.{list_statements}
use Rattle.plan.specs.View.{statement_of}
use Rattle.plan.proofs.Rows.{statement_of-seq}
use Rattle.report.specs.Memory.{block_buffers, buffers}
use Rattle.report.proofs.Places.{some_of, found_here}
use Rattle.report.proofs.memory.+allocates.Goals as goal

pub allocates-returns-in-Seq : goal.allocates-returns-in-Seq
allocates-returns-in-Seq t c =
    let f = c.args.function.now in
    c.block_allocates.ensures
    ∙ ap (λ (l : List Stmt). some_of f (block_buffers (block (list_statements l)))) c.deref.ensures.value
    ∙ ap (λ (a : Statement). some_of f (buffers a)) (sym (statement_of-seq c.in-Seq.all))
    ∙ ap (λ (a : Stmt). some_of f (buffers (statement_of a))) (sym c.in-Seq.is)

pub block_allocates-returns-then-allocates : goal.block_allocates-returns-then-allocates
block_allocates-returns-then-allocates t c =
    found_here c.args.function.now c.args.all.now c.loop-stmt.stmt-index c.stmt-item.result _ c.loop-stmt-test.true c.stmt-item.is c.loop-stmt.invariant (sym c.allocates.ensures ∙ c.if-allocates.true)
