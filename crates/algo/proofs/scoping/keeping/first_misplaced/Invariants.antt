use Rattle.std.proofs.Common.{map}
use Rattle.std.specs.Prelude.{string_bytes}
use Rattle.tree.specs.Term.{term_of, list_terms}
use Rattle.algo.specs.Scoping.Keeping.{KeepPlacesBelow}
use Rattle.algo.proofs.scoping.keeping.first_misplaced.Given as goal

abbrev pub invariant-loop-k : goal.invariant-loop-k
invariant-loop-k l = KeepPlacesBelow l.function (map string_bytes l.variables) (term_of l.value) (list_terms l.at) l.k
