-- The binders that those in memory are.
use Rattle.std.specs.Prelude.{ℕ, ◌+◌, List, [], ◌∷◌, ◌++◌, pos, ◌-ℤ◌}
use Rattle.lin.specs.Forms.{number}
use Rattle.lin.specs.declared.span.Span1.{Span1}
use Rattle.soundness.specs.Obligations.{Binder, Ranged, Picked, Passed}
use Rattle.soundness.specs.declared.binders.binder.Binder.{Binder as BinderHeld}
use Rattle.soundness.specs.declared.binders.binder.Binder.TheVariants as V

-- from 0 to one less than the count
abbrev pub grid_span : ℕ → Span1
grid_span n = record { lower = number (pos 0) ∷ []; upper = number (pos n -ℤ pos 1) ∷ [] }

-- the symbols of a grid from number i on, of which each takes so many values from 0 on: the last stands first
abbrev pub grid_from : ℕ → List ℕ → List Binder
grid_from i [] = []
grid_from i (n ∷ ns) = grid_from (i + 1) ns ++ Ranged i (grid_span n) ∷ []

-- the symbols of a grid of these counts
abbrev pub grid_binders : List ℕ → List Binder
grid_binders ns = grid_from 0 ns

abbrev pub binder_of : BinderHeld → Binder
binder_of (V.Grid i n) = Ranged i (grid_span n)
binder_of (V.Ranged i x) = Ranged i x.now
binder_of (V.Picked i pick ls) = Picked i pick ls.now
binder_of (V.Passed low high) = Passed low.now high.now

-- those in memory are given from the outermost on, the others from the innermost on
abbrev pub binders_of : List BinderHeld → List Binder
binders_of [] = []
binders_of (b ∷ bs) = binders_of bs ++ binder_of b ∷ []
