use Rattle.std.proofs.Common.{◌≡◌, ◌++◌, drop}
use Rattle.sched.specs.Numbers.{whole_numbers}
use Rattle.sched.proofs.numbers.whole_numbers.Given as goal

abbrev pub invariant-loop-name : goal.invariant-loop-name
invariant-loop-name l = l.numbers.items ++ whole_numbers (drop l.name-index l.variables) l.next ≡ whole_numbers l.variables l.region
