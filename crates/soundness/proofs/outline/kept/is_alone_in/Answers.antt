use Rattle.std.proofs.Common.{◌≡◌, ℕ, ◌<◌, ◌+◌, ◌^◌, sym, ap, ◌∙◌, subst}
use Rattle.std.specs.Prelude.{◌&&◌, Bool, not}
use Rattle.plan.specs.Lines.{lines, block_lines}
use Rattle.plan.specs.Lists.{list_statements}
use Rattle.plan.specs.Plan.{Statement, block}
use Rattle.plan.specs.View.{statement_of}
use Rattle.soundness.specs.Claims.{is_update}
use Rattle.soundness.specs.Obligations.{stands_alone}
use Rattle.soundness.specs.Outline.View.{outline_in}
use Rattle.soundness.specs.Outline.Kept.{is_alone_in}
use Rattle.soundness.proofs.OfOutline.Blocks.{seq_is}
use Rattle.soundness.proofs.outline.kept.is_alone_in.Goals as goal

pub stands_alone-requires : goal.stands_alone-requires
stands_alone-requires c =
    let e = seq_is c.args.body.now c.in-Seq.row c.deref.result.now c.in-Seq.is c.deref.ensures.value in
    subst (λ (a : Statement). c.args.line + lines a < 2 ^ 32) e c.requires

pub returns-then-is_pure : goal.returns-then-is_pure
returns-then-is_pure c =
    let O = outline_in c.args.outlined.now in
    let w = c.args.window.now in
    let e = seq_is c.args.body.now c.in-Seq.row c.deref.result.now c.in-Seq.is c.deref.ensures.value in
    ap (λ (b : Bool). b && c.stands_alone.result) (sym c.if-is_pure.true)
    ∙ (λ j. c.is_pure.ensures j && c.stands_alone.ensures j) ∙ ap (λ (a : Statement). is_alone_in O w a c.args.line) (sym e)
