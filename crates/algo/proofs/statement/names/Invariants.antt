use Rattle.std.proofs.Common.{◌≡◌, map, take, vec_len}
use Rattle.expr.specs.Statements.View.{named_text}
use Rattle.algo.specs.Parts.{names_of}
use Rattle.algo.proofs.statement.names.Given as goal

abbrev pub invariant-loop-name : goal.invariant-loop-name
invariant-loop-name l = (names_of l.names.items ≡ map named_text (take l.name-index l.named)) × (vec_len l.names ≡ l.name-index)
