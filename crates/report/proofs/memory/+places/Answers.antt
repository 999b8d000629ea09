use Rattle.std.proofs.Common.{List, sym, ap, ◌∙◌}
use Rattle.plan.specs.declared.stmt.Stmt.{Stmt}
use Rattle.plan.specs.Plan.{Statement, block}
use Rattle.plan.specs.Lists.{list_statements}
use Rattle.plan.specs.View.{statement_of}
use Rattle.plan.proofs.Rows.{statement_of-seq}
use Rattle.report.specs.Costs.{capped}
use Rattle.report.specs.Memory.{block_buffers, buffers, places_of}
use Rattle.report.proofs.memory.+places.Goals as goal

pub places_in-returns-in-Seq : goal.places_in-returns-in-Seq
places_in-returns-in-Seq t c =
    let f = c.args.function.now in
    c.places_in_block.ensures
    ∙ ap (λ (l : List Stmt). capped (places_of f (block_buffers (block (list_statements l))))) c.deref.ensures.value
    ∙ ap (λ (a : Statement). capped (places_of f (buffers a))) (sym (statement_of-seq c.in-Seq.all))
    ∙ ap (λ (a : Stmt). capped (places_of f (buffers (statement_of a)))) (sym c.in-Seq.is)
