use Rattle.std.proofs.Common.{◌≡◌, map, take}
use Rattle.std.specs.List.{list_any}
use Rattle.algo.specs.Parts.{functions_of}
use Rattle.plan.specs.Lists.{list_groups}
use Rattle.validation.specs.Stored.Definitions.{group_stores}
use Rattle.validation.proofs.stored.defined.marks_of.Given as goal

abbrev pub invariant-loop-k : goal.invariant-loop-k
invariant-loop-k l = l.marks.items ≡ map (λ f. list_any (group_stores f.name) (list_groups l.groups)) (functions_of (take l.k l.functions.entries))
