-- Unions of regions. None: a form that the rules make is outside the limits.
use Rattle.std.specs.Prelude.{List, [], ◌∷◌, fold, Option, Some, None}
use Rattle.numeric.specs.declared.ty.Ty.TheVariants.{I32}
use Rattle.lin.specs.declared.scope.Binding.{Binding}
use Rattle.lin.specs.declared.span.Span1.{Span1}
use Rattle.bounds.specs.Spans.{choice_of}

-- a span before others
abbrev pub in_front : Option Span1 → Option (List Span1) → Option (List Span1)
in_front None rest = None
in_front (Some s) None = None
in_front (Some s) (Some ss) = Some (s ∷ ss)

module _ (scope : List Binding) where
  -- the union of two regions, coordinate by coordinate
  abbrev pub union_of : List Span1 → List Span1 → Option (List Span1)
  union_of [] bs = Some []
  union_of (a ∷ as') [] = Some []
  union_of (a ∷ as') (b ∷ bs) = in_front (choice_of scope I32 a b) (union_of as' bs)

  -- the union of a region with the next; a region without coordinates is that of no call yet
  abbrev pub with_region : Option (List Span1) → Option (List Span1) → Option (List Span1)
  with_region None next = None
  with_region (Some []) next = next
  with_region (Some (a ∷ as')) None = None
  with_region (Some (a ∷ as')) (Some bs) = union_of (a ∷ as') bs

  -- the union of all, the first ones first
  abbrev pub united : List (Option (List Span1)) → Option (List Span1)
  united regions = fold with_region (Some []) regions
