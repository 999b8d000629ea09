use Rattle.std.proofs.Common.{◌≡◌, ℕ}
use Rattle.plan.specs.Plan.{block}
use Rattle.plan.specs.Lists.{list_statements}
use Rattle.plan.specs.Semantics.Setting.{block_allocated, or_else}
use Rattle.interpreter.specs.Sizes.{first_size, size_of}
use Rattle.interpreter.proofs.Noted.{left}
use Rattle.interpreter.proofs.sizes.+noting.Given as goal

abbrev pub invariant-note_all_sizes-loop-stmt : goal.invariant-note_all_sizes-loop-stmt
invariant-note_all_sizes-loop-stmt l = (b : ℕ) → or_else (first_size l.sizes.items b) (left l.all l.stmt-index b) ≡ or_else (first_size l.initial.sizes.items b) (size_of (block_allocated (block (list_statements l.all)) b))
