-- The places of a coordinate, and whether a scope shows that each number of a span has one.
use Rattle.std.specs.Prelude.{ℕ, ◌-ℤ◌, pos, nat_lt, Bool, List, [], ◌∷◌}
use Rattle.lin.specs.Forms.{Form}
use Rattle.lin.specs.Regions.{span_inside}
use Rattle.lin.specs.declared.scope.Binding.{Binding}
use Rattle.lin.specs.declared.span.Span1.{Span1}
use Rattle.plan.specs.declared.stmt.Places.{Places}
use Rattle.plan.specs.declared.stmt.Places.TheVariants.{From, Folded}
use Rattle.soundness.specs.Shown.{raised}

-- so many numbers from a form on
abbrev pub seats : Form → ℕ → Span1
seats l n = record { lower = l ∷ []; upper = raised l (pos n -ℤ pos 1) ∷ [] }

-- a folded coordinate has a place for each number, where there are places
abbrev pub is_seated_in : List Binding → Span1 → Places → Bool
is_seated_in scope x (From l n) = span_inside scope x (seats l n)
is_seated_in scope x (Folded n) = nat_lt 0 n
