use Rattle.std.proofs.Common.{◌≡◌, ◌+◌, Some, length}
use Rattle.interpreter.specs.Buffers.Marks.{places_held}
use Rattle.interpreter.specs.RowVisits.{given_from}
use Rattle.interpreter.proofs.row_visits.push_each.Given as goal

abbrev pub invariant-loop-turn : goal.invariant-loop-turn
invariant-loop-turn l = record {
  given : given_from (places_held l.held) l.initial.given.items l.turn ≡ Some l.given.items;
  room : l.given.room ≡ l.initial.given.room;
  long : length l.given.items ≡ length l.initial.given.items + l.turn;
}
