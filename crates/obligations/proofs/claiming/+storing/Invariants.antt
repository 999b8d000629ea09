use Rattle.std.proofs.Common.{◌≡◌, ◌+◌, ◌^◌, ◌<◌}
use Rattle.plan.specs.Lines.{block_lines}
use Rattle.plan.specs.Lists.{list_statements}
use Rattle.plan.specs.Plan.{block}
use Rattle.soundness.specs.Obligations.{block_store_line}
use Rattle.soundness.specs.Outline.View.{outline_in}
use Rattle.obligations.proofs.Blocks.{from}
use Rattle.obligations.proofs.claiming.+storing.Given as goal

abbrev pub invariant-store_line_in-loop-stmt : goal.invariant-store_line_in-loop-stmt
invariant-store_line_in-loop-stmt g l = record {
  found : block_store_line (outline_in l.judge.outlined.now) (g.B.Bounds.rules l.judge.bounds.now) (block (list_statements l.all)) l.line l.buffer l.definition ≡ block_store_line (outline_in l.judge.outlined.now) (g.B.Bounds.rules l.judge.bounds.now) (from l.all l.stmt-index) l.begin l.buffer l.definition;
  fits : l.begin + block_lines (from l.all l.stmt-index) < 2 ^ 32;
}
