use Rattle.std.proofs.Common.{◌≡◌, length}
use Rattle.std.specs.Prelude.{vec_capacity}
use Rattle.interpreter.proofs.GridPoints.{IsUnderWay}
use Rattle.interpreter.proofs.symbols.find_point.Given as goal

abbrev pub invariant-loop-extent : goal.invariant-loop-extent
invariant-loop-extent l = record {
  under_way : IsUnderWay l.grid l.fn.rank l.extent-index l.at.items l.rest;
  long : length l.at.items ≡ l.extent-index;
  room : vec_capacity l.at ≡ vec_capacity l.fn.at;
}
