use Rattle.std.proofs.Common.{◌≡◌, take}
use Rattle.tree.specs.Term.{indices, list_terms}
use Rattle.tree.specs.Meaning.{numbers_of}
use Rattle.plain.specs.Seen.{scope_variables, scope_answers}
use Rattle.plain.proofs.stepping.numbers.Given as goal

abbrev pub invariant-loop-index : goal.invariant-loop-index
invariant-loop-index l = l.numbers.items ≡ numbers_of (scope_variables l.scope) (scope_answers l.scope) (indices (list_terms (take l.index-index l.at)))
