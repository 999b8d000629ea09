-- The calls of an expression, as memory keeps them.
use Rattle.tree.specs.Term.{list_terms, indices}
use Rattle.algo.specs.Scoping.Standing.{Written, written}
use Rattle.sched.specs.declared.calls.Call.{Call}

abbrev pub call_of : Call → Written
call_of c = written c.name.now (indices (list_terms c.at.now))
