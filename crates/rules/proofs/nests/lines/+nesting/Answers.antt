use Rattle.std.proofs.Common.{◌≡◌, ap, sym, subst, ◌∙◌, Option}
use Rattle.std.specs.Prelude.{IfOk}
use Rattle.std.specs.Option.{option_map}
use Rattle.plan.specs.Plan.{block}
use Rattle.plan.specs.View.{statement_of}
use Rattle.plan.specs.Lists.{list_statements}
use Rattle.plan.proofs.Rows.{statement_of-seq}
use Rattle.soundness.specs.Nests.Nest.{Nest, nest_of, block_nest}
use Rattle.rules.specs.Nests.View.{nest_held}
use Rattle.rules.proofs.nests.lines.+nesting.Goals as goal

pub line_in-returns-in-Seq : goal.line_in-returns-in-Seq
line_in-returns-in-Seq t c =
    subst (λ (n : Option Nest). IfOk c.line_in_block.result (λ found. option_map nest_held found ≡ n))
    (ap (λ l. block_nest (block (list_statements l)) c.args.buffer) c.deref.ensures.value
    ∙ ap (λ s. nest_of s c.args.buffer) (sym (statement_of-seq c.in-Seq.all))
    ∙ ap (λ s. nest_of (statement_of s) c.args.buffer) (sym c.in-Seq.is))
    c.line_in_block.ensures
