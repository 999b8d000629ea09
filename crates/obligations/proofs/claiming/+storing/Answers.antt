use Rattle.std.proofs.Common.{◌+◌, ◌<◌, ◌^◌, sym, ap, ◌∙◌, subst, rules}
use Rattle.plan.specs.declared.stmt.Stmt.TheViews.{the_lemmas}
use Rattle.plan.specs.Lines.{lines, block_lines}
use Rattle.plan.specs.Lists.{list_statements}
use Rattle.plan.specs.Plan.{Statement, block}
use Rattle.soundness.specs.Obligations.{store_line}
use Rattle.soundness.specs.Outline.View.{outline_in}
use Rattle.obligations.proofs.Blocks.{seq_is}
use Rattle.obligations.proofs.claiming.+storing.Goals as goal

pub store_line-store_line_in-requires : goal.store_line-store_line_in-requires
store_line-store_line_in-requires g t c κs within =
    let e = seq_is c.args.stmt.now c.in-Seq.all c.deref.result.now c.in-Seq.is c.deref.ensures.value in
    let fits : c.args.line + block_lines (block (list_statements c.deref.result.now)) < 2 ^ 32 = subst (λ (a : Statement). c.args.line + lines a < 2 ^ 32) e c.requires in
    (search (rules, the_lemmas), (search rules, (search rules, fits)))

pub store_line-returns-in-Seq : goal.store_line-returns-in-Seq
store_line-returns-in-Seq g t c =
    let O = outline_in c.args.judge.now.outlined.now in
    let R = g.B.Bounds.rules c.args.judge.now.bounds.now in
    c.store_line_in.ensures
    ∙ ap (λ (a : Statement). store_line O R a c.args.line c.args.buffer c.args.definition) (sym (seq_is c.args.stmt.now c.in-Seq.all c.deref.result.now c.in-Seq.is c.deref.ensures.value))
