use Rattle.std.proofs.Common.{[], map}
use Rattle.shares.specs.Filed.{AreFiled}
use Rattle.shares.proofs.Filing.{row}
use Rattle.shares.proofs.filed.none_filed.Given as goal

abbrev pub invariant-loop : goal.invariant-loop
invariant-loop l = AreFiled [] l.counter (map row l.lists.items)
