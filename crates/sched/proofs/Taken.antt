-- What calls need of another function.
use Rattle.std.proofs.Common.{◌≡◌, ℕ, ◌≤◌, List, [], ◌∷◌, length, refl, arith}
use Rattle.lin.specs.declared.scope.Binding.{Binding}
use Rattle.lin.specs.declared.span.Span1.{Span1}
use Rattle.bounds.specs.Projection.Projection.{projected_span}
use Rattle.sched.specs.Taken.{freed}

pub freed_some : (scope : List Binding) (inner : List ℕ) (s : Span1) → 1 ≤ length inner → freed scope inner s ≡ projected_span scope inner s
freed_some scope [] s some = absurd (omega (arith, some))
freed_some scope (i ∷ is) s some = refl
