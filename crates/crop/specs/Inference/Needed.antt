-- The region of the points at which the definitions of a function call another, itself or the input.
use Rattle.std.specs.Prelude.{ℕ, suc, List, [], ◌++◌, map, flat_map, take, Option, Some, None, slice_get}
use Rattle.numeric.specs.declared.ty.Ty.{Ty}
use Rattle.tree.specs.Term.{Term}
use Rattle.meaning.specs.Algorithm.{Range, Change, Function, Algorithm}
use Rattle.meaning.specs.Conditions.{callable}
use Rattle.algo.specs.Scoping.Standing.{calls_of}
use Rattle.lin.specs.declared.scope.Binding.{Binding}
use Rattle.lin.specs.declared.span.Span1.{Span1}
use Rattle.bounds.specs.Spans.{numbers}
use Rattle.bounds.specs.Projection.Unions.{united}
use Rattle.crop.specs.Inference.Regions.{regions_of}

-- what the k-th function's pure definition and its updates' left sides may call, and what their right sides may
abbrev pub callable_before : Algorithm → ℕ → List ℕ → Option (Ty × ℕ)
callable_before a k = callable a (take k a.functions)

abbrev pub callable_through : Algorithm → ℕ → List ℕ → Option (Ty × ℕ)
callable_through a k = callable a (take (suc k) a.functions)

-- a region, and beside it the ranges of an update's reduction variables
abbrev pub with_domain : List Span1 → List Range → List Span1
with_domain region ranges = region ++ map (λ d. numbers d.low d.high) ranges

-- the names that an update's expressions may use, beside a function's variables
abbrev pub names_beside : List (List ℕ) → List Range → List (List ℕ)
names_beside variables ranges = variables ++ map (λ d. d.variable) ranges

-- `inner` has the symbols of which each call's region is freed
module _ (scope : List Binding) (inner : List ℕ) (a : Algorithm) (k : ℕ) (callee : List ℕ) (region : List Span1) where
  -- the regions of the calls in some expressions of an update: in its left side, and in its right side
  abbrev pub left_regions : List (List ℕ) → List Range → List Term → List (Option (List Span1))
  left_regions variables ranges at =
      flat_map (λ e. regions_of scope (callable_before a k) (names_beside variables ranges) (with_domain region ranges) inner callee (calls_of e)) at

  abbrev pub right_regions : List (List ℕ) → List Range → Term → List (Option (List Span1))
  right_regions variables ranges value =
      regions_of scope (callable_through a k) (names_beside variables ranges) (with_domain region ranges) inner callee (calls_of value)

  abbrev pub update_regions : List (List ℕ) → Change → List (Option (List Span1))
  update_regions variables u = left_regions variables u.ranges u.at ++ right_regions variables u.ranges u.value

  abbrev pub pure_regions : List (List ℕ) → Term → List (Option (List Span1))
  pure_regions variables value = regions_of scope (callable_before a k) variables region inner callee (calls_of value)

  -- the regions of all calls, in the order of the text
  abbrev pub regions_in : Function → List (Option (List Span1))
  regions_in f = pure_regions f.variables f.value ++ flat_map (update_regions f.variables) f.changes

  -- their union, at the points of the k-th function, counted from 0, in the region
  abbrev pub needed_outside : Option (List Span1)
  needed_outside = elim (slice_get a.functions k) [ Some f ↦ united scope (regions_in f) | None ↦ Some [] ]

-- where no symbol is freed
abbrev pub needed : List Binding → Algorithm → ℕ → List ℕ → List Span1 → Option (List Span1)
needed scope a k callee region = needed_outside scope [] a k callee region
