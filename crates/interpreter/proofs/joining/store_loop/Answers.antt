use Rattle.std.proofs.Common.{◌≡◌, List, Some, sym, ap, ◌∙◌, Bor}
use Rattle.std.specs.Option.{option_map}
use Rattle.plan.specs.declared.stmt.Stmt.{Stmt}
use Rattle.plan.specs.Lists.{list_statements}
use Rattle.plan.specs.Plan.{Seq, block}
use Rattle.plan.specs.View.{statement_of}
use Rattle.plan.proofs.Rows.{statement_of-seq}
use Rattle.interpreter.specs.Joining.{IsLoop, IsStoreLoop}
use Rattle.interpreter.specs.StoreLines.{one_line}
use Rattle.interpreter.proofs.FoundRuns.{if_some}
use Rattle.interpreter.proofs.joining.store_loop.Goals as goal

pub returns-in_ok-alone-in-Seq : goal.returns-in_ok-alone-in-Seq
returns-in_ok-alone-in-Seq c =
    let one = statement_of c.in_ok-alone-in-Seq.field-0.now in
    let a = statement_of c.args.stmt.now in
    let block_is : a ≡ Seq (block (list_statements c.deref.result.now)) =
    ap statement_of c.in-Seq.is ∙ statement_of-seq c.in-Seq.all ∙ ap (λ (l : List Stmt). Seq (block (list_statements l))) (sym c.deref.ensures.value) in
    let some : one_line a ≡ Some one = ap one_line block_is ∙ sym c.alone.ensures ∙ ap (option_map (λ (b : Bor Stmt). statement_of b.now)) c.in_ok-alone-in-Seq.was in
    if_some c.looped.result (IsLoop one) (IsStoreLoop a) (λ x h. record { loop = one; one = some; is = h }) c.looped.ensures
