-- The span of an expression's value where each coordinate lies in its span. None: a form that the rules make is outside the limits.
use Rattle.std.specs.Prelude.{ℕ, nat_eq, ℤ, pos, List, ◌∷◌, map, if◌then◌else◌, Option, Some, None, option_map}
use Rattle.std.specs.Cmp.Lexicographic.{pointwise}
use Rattle.numeric.specs.declared.ty.Ty.{Ty}
use Rattle.numeric.specs.declared.ty.Ty.TheVariants.{I32}
use Rattle.numeric.specs.Apply.{result_type}
use Rattle.tree.specs.Term.{Term, Number, Name, Call, Minus, Binary, Clamp, Cast, Choice}
use Rattle.tree.specs.Names.{called_type}
use Rattle.tree.specs.Typing.{shape_type}
use Rattle.lin.specs.declared.scope.Binding.{Binding}
use Rattle.lin.specs.declared.span.Span1.{Span1}
use Rattle.bounds.specs.Lists.{checked, kept}
use Rattle.bounds.specs.Spans.{span_of, range_of, exactly, fitted, difference_of, minimum_of, maximum_of, choice_of, binary_of}

-- the span of the first coordinate of this name
abbrev pub span_named : List (List ℕ) → List Span1 → List ℕ → Option Span1
span_named (x ∷ xs) (s ∷ ss) name = if pointwise nat_eq x name then Some s else span_named xs ss name
span_named _ _ name = None

-- what a coordinate's span gives; a name of no coordinate is an i32
abbrev pub coordinate_of : Option Span1 → Option Span1
coordinate_of None = Some (range_of I32)
coordinate_of (Some s) = span_of (kept (map checked s.lower)) (kept (map checked s.upper))

-- the number that an expression is, if it is a literal
abbrev pub literal_of : Term → Option ℤ
literal_of (Number t n) = Some n
literal_of _ = None

abbrev pub both : Option Span1 → Option Span1 → (Span1 → Span1 → Option Span1) → Option Span1
both None b f = None
both (Some a) None f = None
both (Some a) (Some b) f = f a b

-- `scope` has the symbols, `functions` the types of what is called, `names` the names of the region's coordinates
module _ (scope : List Binding) (functions : List ℕ → Option (Ty × ℕ)) (names : List (List ℕ)) (region : List Span1) where
  abbrev pub interval : Term → Option Span1
  interval (Number t n) = exactly n
  interval (Name name) = coordinate_of (span_named names region name)
  interval (Call name at) = Some (range_of (called_type (functions name)))
  interval (Minus a) = both (exactly (pos 0)) (interval a) (λ zero s. difference_of scope (shape_type functions a) zero s)
  interval (Binary op a b) = both (interval a) (interval b) (λ s t. binary_of scope op (result_type op (shape_type functions a)) (literal_of a) (literal_of b) s t)
  interval (Clamp a l h) =
      both (both (interval a) (interval h) (λ s t. minimum_of scope (shape_type functions a) s t)) (interval l) (λ s t. maximum_of scope (shape_type functions a) s t)
  interval (Cast t a) = option_map (fitted scope t) (interval a)
  interval (Choice c a b) = both (interval a) (interval b) (λ s t. choice_of scope (shape_type functions a) s t)
