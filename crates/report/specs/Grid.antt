-- What is known of a grid's symbols in one piece, and what is counted there.
use Rattle.std.specs.Prelude.{◌≡◌, ℕ, ◌+◌, ◌&&◌, true, false, List, [], ◌∷◌, ℤ, pos, slice_get}
use Rattle.meaning.specs.Names.{same_name}
use Rattle.plan.specs.Plan.{Group, Plan}
use Rattle.plan.specs.Certificate.Cells.{grid_point, grid_symbols}
use Rattle.plan.specs.Semantics.Setting.{allocated, function_in, group_name}
use Rattle.report.specs.declared.known.Binding.{Binding}
use Rattle.report.specs.declared.subject.Deed.{Deed}
use Rattle.report.specs.Costs.{up_to}
use Rattle.report.specs.Counting.{Fits}
use Rattle.report.specs.Subject.{is_fetch, is_store}
use Rattle.report.specs.Tally.{tally, Counted}

-- a symbol of the grid has this value
abbrev pub point_binding : ℕ → ℤ → Binding
point_binding i z = record { symbol = i; low = z; high = z; first = false; later = true }

-- the symbols from this one on have these values
abbrev pub grid_bindings : ℕ → List ℕ → List Binding
grid_bindings i [] = []
grid_bindings i (x ∷ xs) = point_binding i (pos x) ∷ grid_bindings (i + 1) xs

-- a group's piece counts so often, as far as is counted, where its forms are small
pub record IsPieceTally (x : Counted) (g : Group) (rank n : ℕ) : Type 0 where
  pub is : Fits g.body (grid_symbols (grid_point g.grid rank)) → up_to x.enough n ≡ up_to x.enough (tally x g.body (grid_symbols (grid_point g.grid rank)))

-- what counts in the lines of a group, and how many are enough
abbrev pub counts_in : Plan → Group → Deed → List ℕ → ℕ → Counted
counts_in p g d f enough = record {
  buffer = λ b. is_store d && same_name (function_in (allocated g.body b)) f;
  group = λ h. is_fetch d && same_name (group_name (slice_get p.groups h)) f;
  enough = enough;
}
