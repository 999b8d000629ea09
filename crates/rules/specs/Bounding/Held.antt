-- What binders in memory tell of their symbols.
use Rattle.std.specs.Prelude.{ℕ, suc, ◌==◌, Bool, false, Option, Some, None}
use Rattle.lin.specs.declared.scope.Binding.{Binding}
use Rattle.lin.specs.declared.scope.Binding.TheVariants.{Loop}
use Rattle.soundness.specs.Obligations.{anything}
use Rattle.soundness.specs.Binders.View.{grid_span}
use Rattle.soundness.specs.declared.binders.binder.Binder.{Binder}
use Rattle.soundness.specs.declared.binders.binder.Binder.TheVariants.{Grid, Ranged, Picked, Passed}
use Rattle.rules.specs.Bounding.Scopes.{limited, picked_binding}

-- it binds the symbol
abbrev pub binds : Binder → ℕ → Bool
binds (Grid j n) i = j == i
binds (Ranged j x) i = j == i
binds (Picked j pick ls) i = j == i
binds (Passed low high) i = false

-- what it tells of its symbol
abbrev pub told_by : Binder → Binding
told_by (Grid j n) = Loop (limited (grid_span n))
told_by (Ranged j x) = Loop (limited x.now)
told_by (Picked j pick ls) = picked_binding pick ls.now
told_by (Passed low high) = Loop anything

-- what is known of a symbol that this binder binds, if one does
abbrev pub told_by_one : Option Binder → Binding
told_by_one None = Loop anything
told_by_one (Some b) = told_by b

-- one more than the symbol that it binds, 0 where it binds none
abbrev pub end_of : Binder → ℕ
end_of (Grid j n) = suc j
end_of (Ranged j x) = suc j
end_of (Picked j pick ls) = suc j
end_of (Passed low high) = 0
