use Rattle.std.proofs.Common.{◌≡◌, ◌++◌, take}
use Rattle.std.specs.Prelude.{string_bytes}
use Rattle.plan.specs.Lists.{list_groups}
use Rattle.nest.specs.Writing.{groups_text}
use Rattle.nest.proofs.writing.put_groups.Given as goal

abbrev pub invariant-loop-number : goal.invariant-loop-number
invariant-loop-number l = string_bytes l.text ≡ string_bytes l.fn.text ++ groups_text 0 (list_groups (take l.number l.groups))
