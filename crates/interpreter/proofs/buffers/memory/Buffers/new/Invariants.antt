use Rattle.std.proofs.Common.{take}
use Rattle.interpreter.specs.Buffers.Blocks.{AreNumbered, IsMadeFor}
use Rattle.interpreter.proofs.buffers.memory.Buffers.new.Given as goal

abbrev pub invariant-loop-limit : goal.invariant-loop-limit
invariant-loop-limit l = record {
  numbered : AreNumbered (take l.limit-index l.limits) l.buffers.items;
  made : IsMadeFor l.limits l.buffers.items;
}
