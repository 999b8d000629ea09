use Rattle.std.proofs.Common.{◌≡◌, List, sym, ap, ◌∙◌}
use Rattle.plan.specs.declared.stmt.Stmt.{Stmt}
use Rattle.plan.specs.Lists.{list_statements}
use Rattle.plan.specs.Plan.{Statements, Seq, Then, Empty, block}
use Rattle.plan.specs.View.{statement_of}
use Rattle.plan.proofs.Rows.{statement_of-seq}
use Rattle.interpreter.proofs.shifting.named_loop.Goals as goal

pub returns : goal.returns
returns c =
    let line = statement_of c.in_ok-lines.lines.0.now in
    let loop = statement_of c.in_ok-lines.lines.1.now in
    let is : statement_of c.args.stmt.now ≡ Seq (Then line (Then loop Empty)) =
    ap statement_of c.in-Seq.is ∙ statement_of-seq c.in-Seq.all ∙ ap (λ (l : List Stmt). Seq (block (list_statements l))) (sym c.deref.ensures.value)
    ∙ ap (λ (b : Statements). Seq b) c.in_ok-lines.ensures in
    record { line = line; loop = loop; is = is; name = c.in_ok-name.ensures; inner = c.in_ok-inner.ensures }
