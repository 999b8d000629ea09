use Rattle.std.proofs.Common.{◌≡◌, ◌++◌, drop}
use Rattle.sched.proofs.forms.widened.Given as goal

abbrev pub invariant-loop-number : goal.invariant-loop-number
invariant-loop-number l = l.wide.items ++ drop l.number-index l.numbers ≡ l.numbers
