use Rattle.std.proofs.Common.{◌≡◌, ◌++◌, ap, sym, subst, ◌∙◌, append_assoc, take}
use Rattle.std.specs.Prelude.{OnOk, string_bytes}
use Rattle.plan.specs.Plan.{block}
use Rattle.plan.specs.View.{statement_of}
use Rattle.plan.specs.Lists.{list_statements}
use Rattle.plan.proofs.Rows.{statement_of-seq}
use Rattle.nest.specs.Writing.{statement_text, block_text}
use Rattle.nest.proofs.Whole.{more_statements}
use Rattle.nest.proofs.writing.+put_stmt.Goals as goal

pub put_block-loop-stmt-preserved : goal.put_block-loop-stmt-preserved
put_block-loop-stmt-preserved t c =
    c.in_ok-put_stmt.ensures
    ∙ ap (λ w. w ++ statement_text (statement_of c.stmt-item.result)) c.loop-stmt.invariant
    ∙ append_assoc (string_bytes c.args.text.now) (block_text (block (list_statements (take c.loop-stmt.stmt-index c.args.all.now)))) (statement_text (statement_of c.stmt-item.result))
    ∙ ap (λ w. string_bytes c.args.text.now ++ w) (sym (more_statements c.args.all.now c.loop-stmt.stmt-index c.stmt-item.result c.loop-stmt-test.true c.stmt-item.is))

pub put_stmt-returns-in-Seq : goal.put_stmt-returns-in-Seq
put_stmt-returns-in-Seq t c =
    subst (λ s. OnOk c.put_block.result (string_bytes c.put_block.new.text ≡ string_bytes c.args.text.now ++ s))
    (ap (λ l. block_text (block (list_statements l))) c.deref.ensures.value
    ∙ ap statement_text (sym (statement_of-seq c.in-Seq.all))
    ∙ ap (λ s. statement_text (statement_of s)) (sym c.in-Seq.is))
    c.put_block.ensures
