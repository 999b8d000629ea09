-- The spans of the results of operators. None: a form that the rules make is outside the limits.
use Rattle.std.specs.Prelude.{ℤ, pos, negsuc, ◌-ℤ◌, ◌*ℤ◌, Bool, true, false, ◌&&◌, ◌||◌, if◌then◌else◌, List, [], ◌∷◌, ◌++◌, map, fold, Option, Some, None, option_map, suc, int_le}
use Rattle.std.specs.Int.{int_max, int_min}
use Rattle.numeric.specs.declared.ty.Ty.{Ty}
use Rattle.numeric.specs.Wrap.{least, greatest}
use Rattle.numeric.specs.Apply.{quotient}
use Rattle.numeric.specs.declared.op.Op.{Op}
use Rattle.numeric.specs.declared.op.Op.TheVariants.{Add, Sub, Mul, Div, Rem, Min, Max}
use Rattle.lin.specs.Forms.{Form, number}
use Rattle.lin.specs.Search.{sup, sup_of_difference, smaller, is_empty}
use Rattle.lin.specs.declared.scope.Binding.{Binding}
use Rattle.lin.specs.declared.span.Span1.{Span1}
use Rattle.bounds.specs.Lists.{checked, kept, all_combined, union}
use Rattle.bounds.specs.declared.ends.Ends.{Ends}

abbrev pub span_of : Option (List Form) → Option (List Form) → Option Span1
span_of None upper = None
span_of (Some lower) None = None
span_of (Some lower) (Some upper) = Some (record { lower = lower; upper = upper })

-- from one number to another
abbrev pub numbers : ℤ → ℤ → Span1
numbers low high = record { lower = number low ∷ []; upper = number high ∷ [] }

-- all values of a type
abbrev pub range_of : Ty → Span1
range_of ty = numbers (least ty) (greatest ty)

-- one number
abbrev pub exactly : ℤ → Option Span1
exactly z = span_of (kept (checked (number z) ∷ [])) (kept (checked (number z) ∷ []))

-- ---- the constant ends
-- the least number that an upper form shows the value to be at most
abbrev pub highest : List Binding → List Form → Option ℤ
highest scope uppers = fold smaller None (map (λ f. sup scope f) uppers)

-- how far below 0 the value may be at most
abbrev pub depth : List Binding → List Form → Option ℤ
depth scope lowers = fold smaller None (map (λ f. sup_of_difference scope (number (pos 0)) f) lowers)

abbrev pub both_ends : Option ℤ → Option ℤ → Option Ends
both_ends None high = None
both_ends (Some below) None = None
both_ends (Some below) (Some high) = Some (record { low = pos 0 -ℤ below; high = high })

abbrev pub ends_of : List Binding → Span1 → Option Ends
ends_of scope s = both_ends (depth scope s.lower) (highest scope s.upper)

-- whether both numbers are values of a type
abbrev pub are_of : Ty → Ends → Bool
are_of ty e = int_le (least ty) e.low && int_le e.high (greatest ty)

abbrev pub stay : Ty → Option Ends → Bool
stay ty None = false
stay ty (Some e) = are_of ty e

-- the span of a result, or the type's range where it is not shown to stay in the type
abbrev pub fitted : List Binding → Ty → Span1 → Span1
fitted scope ty s = if stay ty (ends_of scope s) then s else range_of ty

-- the span from one end to the other, or the type's range where they do not stay in the type
unfoldable pub between : Ty → Ends → Span1
between ty e = if are_of ty e then numbers e.low e.high else range_of ty

-- ---- sums, differences and multiples
abbrev pub fitted_if : List Binding → Ty → Option Span1 → Option Span1
fitted_if scope ty made = option_map (fitted scope ty) made

abbrev pub sum_of : List Binding → Ty → Span1 → Span1 → Option Span1
sum_of scope ty a b = fitted_if scope ty (span_of (kept (all_combined a.lower (pos 1) b.lower)) (kept (all_combined a.upper (pos 1) b.upper)))

abbrev pub difference_of : List Binding → Ty → Span1 → Span1 → Option Span1
difference_of scope ty a b = fitted_if scope ty (span_of (kept (all_combined a.lower (negsuc 0) b.upper)) (kept (all_combined a.upper (negsuc 0) b.lower)))

-- the multiples of some forms
abbrev pub multiples : ℤ → List Form → Option (List Form)
multiples k forms = kept (all_combined (number (pos 0) ∷ []) k forms)

-- a negative factor changes the sides
abbrev pub multiple_of : List Binding → Ty → ℤ → Span1 → Option Span1
multiple_of scope ty (pos n) s = fitted_if scope ty (span_of (multiples (pos n) s.lower) (multiples (pos n) s.upper))
multiple_of scope ty (negsuc n) s = fitted_if scope ty (span_of (multiples (negsuc n) s.upper) (multiples (negsuc n) s.lower))

-- ---- products and divisions from the constant ends
abbrev pub smallest_of : ℤ → ℤ → ℤ → ℤ → ℤ
smallest_of w x y z = int_min (int_min w x) (int_min y z)

abbrev pub largest_of : ℤ → ℤ → ℤ → ℤ → ℤ
largest_of w x y z = int_max (int_max w x) (int_max y z)

abbrev pub product_ends : Ends → Ends → Ends
product_ends a b = record {
  low = smallest_of (a.low *ℤ b.low) (a.low *ℤ b.high) (a.high *ℤ b.low) (a.high *ℤ b.high);
  high = largest_of (a.low *ℤ b.low) (a.low *ℤ b.high) (a.high *ℤ b.low) (a.high *ℤ b.high);
}

abbrev pub ends_product : Ty → Option Ends → Option Ends → Span1
ends_product ty None b = range_of ty
ends_product ty (Some a) None = range_of ty
ends_product ty (Some a) (Some b) = between ty (product_ends a b)

-- a product: a multiple where one side is a literal, else from the ends
abbrev pub product_of : List Binding → Ty → Option ℤ → Option ℤ → Span1 → Span1 → Option Span1
product_of scope ty (Some k) second a b = multiple_of scope ty k b
product_of scope ty None (Some k) a b = multiple_of scope ty k a
product_of scope ty None None a b = Some (ends_product ty (ends_of scope a) (ends_of scope b))

abbrev pub ends_quotient : Ty → ℤ → Option Ends → Span1
ends_quotient ty c None = range_of ty
ends_quotient ty c (Some a) = between ty (record { low = quotient a.low c; high = quotient a.high c })

-- a division by a positive literal
abbrev pub quotient_of : List Binding → Ty → Option ℤ → Span1 → Span1
quotient_of scope ty (Some (pos (suc n))) a = ends_quotient ty (pos (suc n)) (ends_of scope a)
quotient_of scope ty _ a = range_of ty

-- the remainder of a division by a positive literal
abbrev pub remainder_of : Ty → Option ℤ → Span1
remainder_of ty (Some (pos (suc n))) = numbers (pos 0) (pos n)
remainder_of ty _ = range_of ty

-- ---- choices
-- the span, or the type's range where no lower or no upper form is left
abbrev pub or_range : Ty → Span1 → Span1
or_range ty s = if is_empty s.lower || is_empty s.upper then range_of ty else s

abbrev pub or_range_if : Ty → Option Span1 → Option Span1
or_range_if ty made = option_map (or_range ty) made

-- the forms of both lists
abbrev pub joined : List Form → List Form → Option (List Form)
joined firsts seconds = kept (map checked (firsts ++ seconds))

abbrev pub minimum_of : List Binding → Ty → Span1 → Span1 → Option Span1
minimum_of scope ty a b = or_range_if ty (span_of (union scope false a.lower b.lower) (joined a.upper b.upper))

abbrev pub maximum_of : List Binding → Ty → Span1 → Span1 → Option Span1
maximum_of scope ty a b = or_range_if ty (span_of (joined a.lower b.lower) (union scope true a.upper b.upper))

-- one of two values
abbrev pub choice_of : List Binding → Ty → Span1 → Span1 → Option Span1
choice_of scope ty a b = or_range_if ty (span_of (union scope false a.lower b.lower) (union scope true a.upper b.upper))

-- an operator, whose sides may be literals
abbrev pub binary_of : List Binding → Op → Ty → Option ℤ → Option ℤ → Span1 → Span1 → Option Span1
binary_of scope Add ty first second a b = sum_of scope ty a b
binary_of scope Sub ty first second a b = difference_of scope ty a b
binary_of scope Mul ty first second a b = product_of scope ty first second a b
binary_of scope Div ty first second a b = Some (quotient_of scope ty second a)
binary_of scope Rem ty first second a b = Some (remainder_of ty second)
binary_of scope Min ty first second a b = minimum_of scope ty a b
binary_of scope Max ty first second a b = maximum_of scope ty a b
