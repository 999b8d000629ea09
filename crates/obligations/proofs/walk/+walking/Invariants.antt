use Rattle.std.proofs.Common.{◌≡◌, ◌+◌, ◌^◌, ◌<◌}
use Rattle.plan.specs.Lines.{block_lines}
use Rattle.plan.specs.Lists.{list_statements}
use Rattle.plan.specs.Plan.{block}
use Rattle.soundness.specs.Obligations.{block_obligations}
use Rattle.soundness.specs.Outline.View.{outline_in}
use Rattle.obligations.specs.Asked.{first_unmet}
use Rattle.obligations.specs.Context.Around.{known_of, windows_of}
use Rattle.obligations.proofs.Blocks.{from}
use Rattle.obligations.proofs.walk.+walking.Given as goal

abbrev pub invariant-unmet_in_block-loop-stmt : goal.invariant-unmet_in_block-loop-stmt
invariant-unmet_in_block-loop-stmt g l = record {
  found : first_unmet (g.B.Bounds.rules l.judge.bounds.now) (g.T.NestTests.nests l.judge.tests.now) l.judge.part (block_obligations (outline_in l.judge.outlined.now) (g.B.Bounds.rules l.judge.bounds.now) (windows_of l.kept) (block (list_statements l.all)) l.line (known_of l.fn.known l.updating)) ≡ first_unmet (g.B.Bounds.rules l.judge.bounds.now) (g.T.NestTests.nests l.judge.tests.now) l.judge.part (block_obligations (outline_in l.judge.outlined.now) (g.B.Bounds.rules l.judge.bounds.now) (windows_of l.left.items) (from l.all l.stmt-index) l.begin (known_of l.known l.updating));
  fits : l.begin + block_lines (from l.all l.stmt-index) < 2 ^ 32;
}
