-- The bound of a form that a search over the bounds of its symbols finds.
use Rattle.std.specs.Prelude.{ℕ, zero, suc, ◌+◌, ℤ, pos, negsuc, Bool, true, false, ◌&&◌, if◌then◌else◌, List, [], ◌∷◌, length, map, fold, nat_le, Option, Some, None, slice_get, option_and_then}
use Rattle.std.specs.Option.{option_map_or}
use Rattle.std.specs.Int.{int_min, int_max}
use Rattle.lin.specs.Forms.{Form, factor_of, is_zero, is_within_limits, combined, without}
use Rattle.lin.specs.declared.scope.Binding.{Binding}
use Rattle.lin.specs.declared.scope.Binding.TheVariants.{Loop, LetMin, LetMax}

-- the forms that may stand in a symbol's place: its upper bounds where its factor is positive, else its lower ones
abbrev pub candidates : Binding → ℤ → List Form
candidates (Loop span) (pos n) = span.upper
candidates (Loop span) (negsuc n) = span.lower
candidates (LetMin forms) c = forms
candidates (LetMax forms) c = forms

-- whether any of them may be the value, so that the largest result counts
abbrev pub any_may_be : Binding → ℤ → Bool
any_may_be (Loop span) c = false
any_may_be (LetMin forms) (pos n) = false
any_may_be (LetMin forms) (negsuc n) = true
any_may_be (LetMax forms) (pos n) = true
any_may_be (LetMax forms) (negsuc n) = false

-- of two bounds the smaller and the larger, where None is larger than every number
abbrev pub smaller : Option ℤ → Option ℤ → Option ℤ
smaller None b = b
smaller (Some x) None = Some x
smaller (Some x) (Some y) = Some (int_min x y)

abbrev pub larger : Option ℤ → Option ℤ → Option ℤ
larger None b = None
larger (Some x) None = None
larger (Some x) (Some y) = Some (int_max x y)

abbrev pub pick : Bool → Option ℤ → Option ℤ → Option ℤ
pick true a b = larger a b
pick false a b = smaller a b

abbrev pub is_empty : {X : Type 0} → List X → Bool
is_empty [] = true
is_empty (x ∷ xs) = false

-- the result that counts, the largest or the smallest, and None where there is none
abbrev pub that_counts : Bool → List (Option ℤ) → Option ℤ
that_counts largest [] = None
that_counts largest (x ∷ xs) = fold (pick largest) x xs

-- the number that a form without symbols is
abbrev pub number_of : Form → Option ℤ
number_of form = if is_empty form.terms then Some form.constant else None

-- a form with another in the place of symbol n, which has the factor c; None where that leaves the limits
abbrev pub replaced : Form → ℕ → ℤ → Form → Option Form
replaced form n c other = combined (without form n) c other

-- the result that counts over all candidates, and the total over all candidates
abbrev pub result_at : Option Binding → ℤ → (Form → Option ℤ) → Option ℤ
result_at None c result = None
result_at (Some binding) c result = that_counts (any_may_be binding c) (map result (candidates binding c))

abbrev pub total : (Form → ℕ) → List Form → ℕ
total count [] = 0
total count (f ∷ fs) = count f + total count fs

abbrev pub total_at : Option Binding → ℤ → (Form → ℕ) → ℕ
total_at None c count = 0
total_at (Some binding) c count = total count (candidates binding c)

-- the bound when the symbols below n are eliminated, the latest first
abbrev pub least : List Binding → ℕ → Form → Option ℤ
least scope zero form = number_of form
least scope (suc n) form =
    if is_zero (factor_of form.terms n) then least scope n form
    else result_at (slice_get scope n) (factor_of form.terms n)
    (λ other. option_and_then (λ next. least scope n next) (replaced form n (factor_of form.terms n) other))

-- how many replacements that takes, all branches counted
abbrev pub replacements : List Binding → ℕ → Form → ℕ
replacements scope zero form = 0
replacements scope (suc n) form =
    if is_zero (factor_of form.terms n) then replacements scope n form
    else total_at (slice_get scope n) (factor_of form.terms n)
    (λ other. suc (option_map_or (λ next. replacements scope n next) (replaced form n (factor_of form.terms n) other) 0))

-- what one branch finds, and how many replacements it takes: the one that made its form, and those after it
abbrev pub branch_bound : List Binding → ℕ → Option Form → Option ℤ
branch_bound scope n made = option_and_then (λ next. least scope n next) made

abbrev pub branch_cost : List Binding → ℕ → Option Form → ℕ
branch_cost scope n made = suc (option_map_or (λ next. replacements scope n next) made 0)

-- the least bound of a form that a search of at most 4096 replacements finds
abbrev pub sup : List Binding → Form → Option ℤ
sup scope form =
    if is_within_limits form && nat_le (replacements scope (length scope) form) 4096
    then least scope (length scope) form else None

-- the bound of a form less another
abbrev pub sup_of_difference : List Binding → Form → Form → Option ℤ
sup_of_difference scope a b = option_and_then (λ d. sup scope d) (combined a (negsuc 0) b)

abbrev pub is_at_most_zero : Option ℤ → Bool
is_at_most_zero None = false
is_at_most_zero (Some (pos zero)) = true
is_at_most_zero (Some (pos (suc n))) = false
is_at_most_zero (Some (negsuc n)) = true

-- whether one form is shown to be at most another
abbrev pub at_most : List Binding → Form → Form → Bool
at_most scope a b = is_at_most_zero (sup_of_difference scope a b)
