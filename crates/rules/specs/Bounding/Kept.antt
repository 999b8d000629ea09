-- What was answered in a scope.
use Rattle.std.specs.Prelude.{◌≡◌, List}
use Rattle.std.specs.List.{AllByRecursion}
use Rattle.lin.specs.Regions.{span_inside}
use Rattle.lin.specs.declared.scope.Binding.{Binding}
use Rattle.rules.specs.declared.bounding.kept.Answer.{Answer}

-- what the rules answer in the scope
abbrev pub IsRight : List Binding → Answer → Type 0
IsRight scope answer = answer.yes ≡ span_inside scope answer.inner answer.outer

abbrev pub AreRight : List Binding → List Answer → Type 0
AreRight scope answers = AllByRecursion (IsRight scope) answers
