use Rattle.std.proofs.Common.{◌≡◌, ◌+◌, ◌^◌, ◌<◌}
use Rattle.plan.specs.Lines.{block_lines}
use Rattle.plan.specs.Lists.{list_statements}
use Rattle.plan.specs.Plan.{block}
use Rattle.soundness.specs.Obligations.{stands_alone}
use Rattle.soundness.specs.Outline.View.{outline_in}
use Rattle.soundness.proofs.OfOutline.Blocks.{from}
use Rattle.soundness.proofs.outline.kept.stands_alone.Given as goal

abbrev pub invariant-loop-k : goal.invariant-loop-k
invariant-loop-k l = record {
  found : stands_alone (outline_in l.outlined) l.window.symbol l.window.claim (block (list_statements l.row)) l.line
      ≡ stands_alone (outline_in l.outlined) l.window.symbol l.window.claim (from l.row l.k) l.begin;
  fits : l.begin + block_lines (from l.row l.k) < 2 ^ 32;
}
