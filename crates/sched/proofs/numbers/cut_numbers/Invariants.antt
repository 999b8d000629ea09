use Rattle.std.proofs.Common.{◌≡◌, drop}
use Rattle.sched.specs.Numbers.{cut_numbers}
use Rattle.sched.proofs.numbers.cut_numbers.Given as goal

abbrev pub invariant-loop-cut : goal.invariant-loop-cut
invariant-loop-cut l = cut_numbers (drop l.cut-index l.cuts) l.numbers.items ≡ cut_numbers l.cuts l.initial.numbers.items
