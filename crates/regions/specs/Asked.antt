-- The region of each stored function where some are computed inside loops: what all turns of all groups ask for together.
use Rattle.std.specs.Prelude.{ℕ, ◌+◌, List, [], ◌∷◌, Option, Some}
use Rattle.lin.specs.declared.scope.Binding.{Binding}
use Rattle.lin.specs.declared.span.Span1.{Span1}
use Rattle.meaning.specs.Algorithm.{Algorithm}
use Rattle.sched.specs.Standing.{◌>>=◌}
use Rattle.regions.specs.declared.regions.Ends.{Ends}
use Rattle.regions.specs.Regions.{ends_of, widen}
use Rattle.sched.specs.Taken.{SiteText}
use Rattle.regions.specs.Taken.{sites_of}
use Rattle.sched.specs.Fetches.{Entry}
use Rattle.sched.specs.Placed.{PlacedText}
use Rattle.regions.specs.Demanded.{add_inner}

-- ---- what is called

-- the ends of what a call stays within, over all values of the symbols around it, from this place on
abbrev pub add_ends : List Binding → ℕ → List Span1 → List (Option Ends) → Option (List (Option Ends))
add_ends scope d [] reach = Some reach
add_ends scope d (s ∷ ss) reach = ends_of scope s >>= λ e. add_ends scope (d + 1) ss (widen reach d e)

abbrev pub add_calls : List Binding → List (List Span1) → List (Option Ends) → Option (List (Option Ends))
add_calls scope [] reach = Some reach
add_calls scope (c ∷ cs) reach = add_ends scope 0 c reach >>= add_calls scope cs

abbrev pub add_sites : List SiteText → List (Option Ends) → Option (List (Option Ends))
add_sites [] reach = Some reach
add_sites (s ∷ ss) reach = add_calls s.scope s.calls reach >>= add_sites ss

module _ (a : Algorithm) (x : List ℕ) where
  -- the calls of the function of this name in the nests of those that are computed inside loops, behind others
  abbrev pub add_inners : List PlacedText → List SiteText → Option (List SiteText)
  add_inners [] before = Some before
  add_inners (i ∷ is) before = add_inner a x i before >>= add_inners is

  -- all of them in a group: in the nests of its own function, and of those that are computed inside its loops
  abbrev pub sites_in : Entry → List PlacedText → Option (List SiteText)
  sites_in e is = sites_of a e.0 e.2 e.1.skeleton x >>= add_inners is

  abbrev pub add_group : Entry → List PlacedText → List (Option Ends) → Option (List (Option Ends))
  add_group e is reach = sites_in e is >>= λ ss. add_sites ss reach

  -- those in each of these groups
  abbrev pub add_groups : List Entry → List (List PlacedText) → List (Option Ends) → Option (List (Option Ends))
  add_groups [] placed reach = Some reach
  add_groups (e ∷ es) [] reach = Some reach
  add_groups (e ∷ es) (is ∷ placed) reach = add_group e is reach >>= add_groups es placed
