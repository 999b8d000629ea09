use Rattle.std.proofs.Common.{◌≡◌, ◌+◌, ◌++◌}
use Rattle.plan.specs.Plan.{block}
use Rattle.plan.specs.Lists.{list_statements}
use Rattle.interpreter.specs.Needs.{block_allotments, block_call_indices, block_coordinate_count, block_symbol_count, BlockIsShort}
use Rattle.interpreter.proofs.Running.{from}
use Rattle.interpreter.proofs.needs.+needing.Given as goal

abbrev pub invariant-note_all_needs-loop-stmt : goal.invariant-note_all_needs-loop-stmt
invariant-note_all_needs-loop-stmt l = record {
  limits : l.needs.limits.items ++ block_allotments (from l.all l.stmt-index) ≡ l.initial.needs.limits.items ++ block_allotments (block (list_statements l.all));
  symbols : l.needs.symbols + block_symbol_count (from l.all l.stmt-index) ≡ l.initial.needs.symbols + block_symbol_count (block (list_statements l.all));
  coordinates : l.needs.coordinates + block_coordinate_count (from l.all l.stmt-index) ≡ l.initial.needs.coordinates + block_coordinate_count (block (list_statements l.all));
  indices : l.needs.indices + block_call_indices (from l.all l.stmt-index) ≡ l.initial.needs.indices + block_call_indices (block (list_statements l.all));
  short : BlockIsShort (from l.all l.stmt-index) → BlockIsShort (block (list_statements l.all));
}
