use Rattle.std.proofs.Common.{◌≡◌, ◌+◌, ◌^◌, ◌<◌}
use Rattle.plan.specs.Lines.{block_lines}
use Rattle.plan.specs.Lists.{list_statements}
use Rattle.plan.specs.Plan.{block}
use Rattle.soundness.specs.Outline.View.{outline_in}
use Rattle.soundness.specs.Outline.Kept.{some_keep}
use Rattle.soundness.proofs.OfOutline.Blocks.{from}
use Rattle.soundness.proofs.outline.kept.+keeping.Given as goal

abbrev pub invariant-some_keep-loop-stmt : goal.invariant-some_keep-loop-stmt
invariant-some_keep-loop-stmt l = record {
  found : some_keep (outline_in l.outlined) l.window (block (list_statements l.all)) l.line
      ≡ some_keep (outline_in l.outlined) l.window (from l.all l.stmt-index) l.begin;
  fits : l.begin + block_lines (from l.all l.stmt-index) < 2 ^ 32;
}
