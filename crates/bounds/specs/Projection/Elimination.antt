-- Upper bounds of a form that name none of some symbols. None: a form that a replacement makes is outside the limits.
use Rattle.std.specs.Prelude.{ℕ, zero, suc, ℤ, Bool, true, false, ◌&&◌, not, ◌==◌, if◌then◌else◌, List, [], ◌∷◌, length, map, fold, nat_le, Option, Some, None, slice_get, option_and_then}
use Rattle.std.specs.List.{list_any}
use Rattle.std.specs.Option.{option_map_or}
use Rattle.lin.specs.Forms.{Form, factor_of, is_zero, is_within_limits}
use Rattle.lin.specs.Search.{candidates, any_may_be, replaced, total_at}
use Rattle.lin.specs.declared.scope.Binding.{Binding}
use Rattle.bounds.specs.Lists.{union}
use Rattle.bounds.specs.Spans.{joined}

-- ---- the symbols to be eliminated, by their numbers
abbrev pub is_inner : List ℕ → ℕ → Bool
is_inner inner n = list_any (λ s. s == n) inner

-- whether a form names one of them
abbrev pub names_inner : List ℕ → Form → Bool
names_inner inner form = list_any (λ t. is_inner inner t.symbol) form.terms

-- a form that names none of them bounds itself; of another no bound is known
abbrev pub bounds_itself : List ℕ → Form → List Form
bounds_itself inner form = if names_inner inner form then [] else form ∷ []

-- whether a symbol is to be eliminated from a form that has it with this factor
abbrev pub is_eliminated : List ℕ → ℕ → ℤ → Bool
is_eliminated inner n c = is_inner inner n && not (is_zero c)

-- ---- the results that count
module _ (scope : List Binding) where
  -- the bounds that two results give: those of both where the smaller counts, their union where the larger does
  abbrev pub both : Bool → Option (List Form) → Option (List Form) → Option (List Form)
  both largest None b = None
  both largest (Some a) None = None
  both true (Some a) (Some b) = union scope true a b
  both false (Some a) (Some b) = joined a b

  -- those that all results give, the first ones first, and none where there is no result
  abbrev pub that_count : Bool → List (Option (List Form)) → Option (List Form)
  that_count largest [] = Some []
  that_count largest (x ∷ xs) = fold (both largest) x xs

  -- those over all candidates for a symbol
  abbrev pub bounds_at : Option Binding → ℤ → (Form → Option (List Form)) → Option (List Form)
  bounds_at None c result = Some []
  bounds_at (Some binding) c result = that_count (any_may_be binding c) (map result (candidates binding c))

-- ---- the search: `scope` has the symbols, `inner` those to be eliminated
module _ (scope : List Binding) (inner : List ℕ) where
  -- the bounds when the inner symbols below n are eliminated, the latest first
  abbrev pub bounds_below : ℕ → Form → Option (List Form)
  bounds_below zero form = Some (bounds_itself inner form)
  bounds_below (suc n) form =
      if is_eliminated inner n (factor_of form.terms n)
      then bounds_at scope (slice_get scope n) (factor_of form.terms n) (λ other. option_and_then (λ next. bounds_below n next) (replaced form n (factor_of form.terms n) other))
      else bounds_below n form

  -- how many replacements that takes, all branches counted
  abbrev pub replacements_below : ℕ → Form → ℕ
  replacements_below zero form = 0
  replacements_below (suc n) form =
      if is_eliminated inner n (factor_of form.terms n)
      then total_at (slice_get scope n) (factor_of form.terms n) (λ other. suc (option_map_or (λ next. replacements_below n next) (replaced form n (factor_of form.terms n) other) 0))
      else replacements_below n form

  -- what one branch finds, and how many replacements it takes: the one that made its form, and those after it
  abbrev pub branch_bounds : ℕ → Option Form → Option (List Form)
  branch_bounds n made = option_and_then (λ next. bounds_below n next) made

  abbrev pub branch_cost : ℕ → Option Form → ℕ
  branch_cost n made = suc (option_map_or (λ next. replacements_below n next) made 0)

  -- the upper bounds of a form that a search of at most 4096 replacements finds; a longer one finds none
  abbrev pub eliminated : Form → Option (List Form)
  eliminated form =
      if is_within_limits form
      then (if nat_le (replacements_below (length scope) form) 4096 then bounds_below (length scope) form else Some [])
      else None
