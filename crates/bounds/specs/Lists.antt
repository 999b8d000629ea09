-- Lists of forms that bound a value. A list with a form outside the limits is none at all.
use Rattle.std.specs.Prelude.{ℤ, pos, negsuc, Bool, true, false, ◌&&◌, not, if◌then◌else◌, List, [], ◌∷◌, ◌++◌, length, map, fold, flat_map, option_to_list, nat_lt, Option, Some, None, option_map}
use Rattle.std.specs.List.{list_any}
use Rattle.std.specs.Int.{int_max}
use Rattle.lin.specs.Forms.{Form, number, is_within_limits, combined, same_form}
use Rattle.lin.specs.Search.{sup_of_difference, smaller}
use Rattle.lin.specs.declared.scope.Binding.{Binding}

-- a form within the limits
abbrev pub checked : Form → Option Form
checked form = if is_within_limits form then Some form else None

-- a list and one form more, but for a double and past the fourth
abbrev pub with_new : List Form → Form → List Form
with_new forms form = if nat_lt (length forms) 4 && not (list_any (λ f. same_form f form) forms) then forms ++ form ∷ [] else forms

abbrev pub with_made : Option (List Form) → Option Form → Option (List Form)
with_made None made = None
with_made (Some forms) None = None
with_made (Some forms) (Some form) = Some (with_new forms form)

-- at most four forms, without doubles, the first found kept; None where one of all is outside the limits
abbrev pub kept : List (Option Form) → Option (List Form)
kept made = fold with_made (Some []) made

-- each form and a multiple of each other one, the first ones outermost
abbrev pub all_combined : List Form → ℤ → List Form → List (Option Form)
all_combined firsts k seconds = flat_map (λ a. map (λ b. combined a k b) seconds) firsts

-- how far a may be above b at most, None where there is no bound
abbrev pub excess : List Binding → Form → Form → Option ℤ
excess scope a b = option_map (λ d. int_max (pos 0) d) (sup_of_difference scope a b)

-- how far a form has to be moved to bound what another bounds: up as an upper bound, down as a lower one
abbrev pub distance : List Binding → Bool → Form → Form → Option ℤ
distance scope true form other = excess scope other form
distance scope false form other = excess scope form other

-- the least distance to one of the others
abbrev pub gap : List Binding → Bool → Form → List Form → Option ℤ
gap scope upper form others = fold smaller None (map (λ other. distance scope upper form other) others)

-- a form moved by a number: up as an upper bound, down as a lower one
abbrev pub moved : Bool → Form → ℤ → Option Form
moved true form d = combined form (pos 1) (number d)
moved false form d = combined form (negsuc 0) (number d)

-- each form moved so that it bounds what the others bound; one that has no bounded gap falls out
abbrev pub all_moved : List Binding → Bool → List Form → List Form → List (Option Form)
all_moved scope upper forms others = flat_map (λ f. option_to_list (option_map (moved upper f) (gap scope upper f others))) forms

-- upper, or lower, bounds of what is bounded by one list or by the other
abbrev pub union : List Binding → Bool → List Form → List Form → Option (List Form)
union scope upper firsts seconds = kept (all_moved scope upper firsts seconds ++ all_moved scope upper seconds firsts)
