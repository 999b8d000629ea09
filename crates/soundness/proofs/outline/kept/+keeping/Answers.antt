use Rattle.std.proofs.Common.{rules, ◌≡◌, ℕ, ◌<◌, ◌+◌, ◌^◌, sym, ap, ◌∙◌, subst}
use Rattle.plan.specs.declared.stmt.Stmt.TheViews.{the_lemmas}
use Rattle.plan.specs.Lines.{lines, block_lines}
use Rattle.plan.specs.Lists.{list_statements}
use Rattle.plan.specs.Plan.{Statement, block}
use Rattle.plan.specs.View.{statement_of}
use Rattle.soundness.specs.Outline.View.{outline_in}
use Rattle.soundness.specs.Outline.Kept.{keeps}
use Rattle.soundness.proofs.OfOutline.Blocks.{seq_is}
use Rattle.soundness.proofs.outline.kept.+keeping.Goals as goal

pub keeps-some_keep-requires : goal.keeps-some_keep-requires
keeps-some_keep-requires t c =
    let e = seq_is c.args.stmt.now c.in-Seq.all c.deref.result.now c.in-Seq.is c.deref.ensures.value in
    let fits : c.args.line + block_lines (block (list_statements c.deref.result.now)) < 2 ^ 32 = subst (λ (a : Statement). c.args.line + lines a < 2 ^ 32) e c.requires in
    (search (rules, the_lemmas), fits)

pub keeps-returns-in-Seq : goal.keeps-returns-in-Seq
keeps-returns-in-Seq t c =
    let e = seq_is c.args.stmt.now c.in-Seq.all c.deref.result.now c.in-Seq.is c.deref.ensures.value in
    c.some_keep.ensures ∙ ap (λ (a : Statement). keeps (outline_in c.args.outlined.now) c.args.window.now a c.args.line) (sym e)
