use Rattle.std.proofs.Common.{◌≡◌, ◌+◌, ap, sym, subst, ◌∙◌, Option}
use Rattle.std.specs.Prelude.{IfOk}
use Rattle.std.specs.Option.{option_map}
use Rattle.plan.specs.Plan.{block}
use Rattle.plan.specs.View.{statement_of}
use Rattle.plan.specs.Lists.{list_statements}
use Rattle.plan.proofs.Rows.{statement_of-seq}
use Rattle.tails.specs.Steps.{Spine, spine_of, block_spine}
use Rattle.tails.specs.View.{spine_held}
use Rattle.tails.proofs.Blocks.{way_none, way_end, more_changed}
use Rattle.tails.proofs.descent.+descending.Goals as goal

pub spine_of-returns-in-Seq : goal.spine_of-returns-in-Seq
spine_of-returns-in-Seq t c =
    subst (λ (n : Option Spine). IfOk c.spine_in_block.result (λ found. option_map spine_held found ≡ n))
    (ap (λ l. block_spine (block (list_statements l)) c.args.buffer) c.deref.ensures.value
    ∙ ap (λ s. spine_of s c.args.buffer) (sym (statement_of-seq c.in-Seq.all))
    ∙ ap (λ s. spine_of (statement_of s) c.args.buffer) (sym c.in-Seq.is))
    c.spine_in_block.ensures

pub spine_in_block-returns-then-some_change : goal.spine_in_block-returns-then-some_change
spine_in_block-returns-then-some_change t c =
    let xs = c.args.all.now in
    let k = c.loop-k.k in
    let b = c.args.buffer in
    sym (way_none xs k c.index-all-k.result b c.loop-k-test.true c.index-all-k.is (sym c.changes.ensures ∙ c.if-changes.true)
    (more_changed xs (k + 1) b c.some_change.result c.some_change.ensures c.if-some_change.true))
    ∙ c.loop-k.invariant

pub spine_in_block-returns : goal.spine_in_block-returns
spine_in_block-returns t c = sym (way_end c.args.all.now c.loop-k.k c.args.buffer c.loop-k-test.false) ∙ c.loop-k.invariant
