use Rattle.std.proofs.Common.{map, take}
use Rattle.shares.specs.Filed.{AreFiled}
use Rattle.shares.proofs.Filing.{row}
use Rattle.shares.proofs.filed.filed_needs.Given as goal

abbrev pub invariant-loop-need : goal.invariant-loop-need
invariant-loop-need l = AreFiled (take l.need-index l.needs) l.groups (map row l.lists.items)
