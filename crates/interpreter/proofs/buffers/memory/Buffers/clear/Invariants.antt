use Rattle.std.proofs.Common.{◌≡◌, false, take, length}
use Rattle.std.specs.List.{AllByRecursion}
use Rattle.interpreter.specs.Buffers.Blocks.{Block, limits_of}
use Rattle.interpreter.proofs.buffers.memory.Buffers.clear.Given as goal

abbrev pub invariant-loop-index : goal.invariant-loop-index
invariant-loop-index l = record {
  count : length l.self-inside.buffers.items ≡ length l.initial.self-inside.buffers.items;
  limits : limits_of l.self-inside.buffers.items ≡ limits_of l.initial.self-inside.buffers.items;
  unused : AllByRecursion (λ (block : Block). block.used ≡ false) (take l.index l.self-inside.buffers.items);
}
