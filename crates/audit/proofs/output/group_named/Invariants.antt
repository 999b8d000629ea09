use Rattle.audit.proofs.Named.{NoneIsOf}
use Rattle.audit.proofs.output.group_named.Given as goal

abbrev pub invariant-loop-number : goal.invariant-loop-number
invariant-loop-number l = NoneIsOf l.groups l.name l.number
