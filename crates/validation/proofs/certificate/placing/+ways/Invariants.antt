use Rattle.std.proofs.Common.{◌≡◌, ◌+◌, ◌≤◌, drop, take, length}
use Rattle.plan.specs.Lists.{list_statements}
use Rattle.plan.specs.Plan.{block}
use Rattle.plan.specs.Lines.{block_lines}
use Rattle.validation.specs.Certificate.Placing.{block_spot_at}
use Rattle.validation.specs.Certificate.Ways.{spot_of}
use Rattle.validation.proofs.certificate.placing.+ways.Given as goal

-- the line lies so many lines behind the first one of the statements from here on, and the outer blocks' symbols and
-- buffers stand first
abbrev pub invariant-way_in_block-loop-stmt : goal.invariant-way_in_block-loop-stmt
invariant-way_in_block-loop-stmt l = record {
  spots : block_spot_at (block (list_statements l.all)) (spot_of l.initial.spot) l.fn.left ≡ block_spot_at (block (list_statements (drop l.stmt-index l.all))) (spot_of l.spot) l.left;
  counted : block_lines (block (list_statements l.all)) + l.left ≡ l.fn.left + block_lines (block (list_statements (drop l.stmt-index l.all)));
  wide : l.symbols ≤ length l.spot.symbols.items;
  symbols : take l.symbols l.spot.symbols.items ≡ l.initial.spot.symbols.items;
  loops : l.spot.loops.items ≡ l.initial.spot.loops.items;
  long : l.buffers ≤ length l.spot.buffers.items;
  buffers : take l.buffers l.spot.buffers.items ≡ l.initial.spot.buffers.items;
}
