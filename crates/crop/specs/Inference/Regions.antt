-- The regions of calls. None: a form that the rules make is outside the limits.
use Rattle.std.specs.Prelude.{ℕ, List, [], ◌∷◌, map, filter, Option, Some, option_and_then}
use Rattle.numeric.specs.declared.ty.Ty.{Ty}
use Rattle.tree.specs.Term.{Terms, End, More}
use Rattle.meaning.specs.Names.{same_name}
use Rattle.algo.specs.Scoping.Standing.{Written}
use Rattle.lin.specs.declared.scope.Binding.{Binding}
use Rattle.lin.specs.declared.span.Span1.{Span1}
use Rattle.bounds.specs.Interval.{interval}
use Rattle.bounds.specs.Projection.Unions.{in_front}
use Rattle.bounds.specs.Projection.Projection.{projected}

-- a region without some symbols; where there are none it stays as it is
abbrev pub freed : List Binding → List ℕ → Option (List Span1) → Option (List Span1)
freed scope [] region = region
freed scope (n ∷ ns) region = option_and_then (λ r. projected scope (n ∷ ns) r) region

-- `scope` has the symbols, `functions` the types of what is called, `names` the names of the region's coordinates
module _ (scope : List Binding) (functions : List ℕ → Option (Ty × ℕ)) (names : List (List ℕ)) (region : List Span1) where
  -- the interval of each index
  abbrev pub spans_at : Terms → Option (List Span1)
  spans_at End = Some []
  spans_at (More a rest) = in_front (interval scope functions names region a) (spans_at rest)

  -- the regions of those calls that are of one name, each without the inner symbols
  abbrev pub regions_of : List ℕ → List ℕ → List Written → List (Option (List Span1))
  regions_of inner callee calls = map (λ c. freed scope inner (spans_at c.at)) (filter (λ c. same_name c.name callee) calls)
