use Rattle.std.proofs.Common.{◌≡◌, ◌++◌, ◌+◌, map, take, vec_len, length}
use Rattle.expr.specs.Statements.View.{domain_text}
use Rattle.algo.specs.Parts.{names_of}
use Rattle.algo.specs.Saying.{domain_names}
use Rattle.algo.proofs.update.with_reductions.Given as goal

abbrev pub invariant-loop-domain : goal.invariant-loop-domain
invariant-loop-domain l = (names_of l.names.items ≡ names_of l.variables ++ domain_names (map domain_text (take l.domain-index l.domains))) × (vec_len l.names ≡ length l.variables + l.domain-index)
