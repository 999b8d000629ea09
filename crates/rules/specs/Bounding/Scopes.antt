-- What the binders around a line tell of symbols, as the scope in which forms are bounded.
use Rattle.std.specs.Prelude.{ℕ, suc, ◌==◌, ◌&&◌, Bool, if◌then◌else◌, List, [], ◌∷◌, map, max, min}
use Rattle.std.specs.List.{list_all, range_with_len}
use Rattle.lin.specs.Forms.{Form, is_within_limits}
use Rattle.lin.specs.Search.{at_most}
use Rattle.lin.specs.declared.scope.Binding.{Binding}
use Rattle.lin.specs.declared.scope.Binding.TheVariants.{Loop, LetMin, LetMax}
use Rattle.lin.specs.declared.span.Span1.{Span1}
use Rattle.plan.specs.declared.stmt.Pick.{Pick}
use Rattle.plan.specs.declared.stmt.Pick.TheVariants.{Min, Max}
use Rattle.soundness.specs.Obligations.{Binder, Ranged, Picked, Passed, anything}

-- a group has at most 256 symbols
abbrev pub most_symbols : ℕ
most_symbols = 256

-- all forms of the span are within the limits
abbrev pub is_limited : Span1 → Bool
is_limited x = list_all is_within_limits x.lower && list_all is_within_limits x.upper

-- a symbol's span, of which nothing is known where a form is outside the limits
abbrev pub limited : Span1 → Span1
limited x = if is_limited x then x else anything

-- the smallest or largest of forms, of which nothing is known where there is no form
abbrev pub picked_binding : Pick → List Form → Binding
picked_binding pick [] = Loop anything
picked_binding Min (l ∷ ls) = LetMin (l ∷ ls)
picked_binding Max (l ∷ ls) = LetMax (l ∷ ls)

-- what the innermost binder of a symbol tells of it: nothing where there is none
abbrev pub binding_of : List Binder → ℕ → Binding
binding_of [] i = Loop anything
binding_of (Ranged j x ∷ bs) i = if j == i then Loop (limited x) else binding_of bs i
binding_of (Picked j pick ls ∷ bs) i = if j == i then picked_binding pick ls else binding_of bs i
binding_of (Passed low high ∷ bs) i = binding_of bs i

-- one more than the greatest symbol that is bound
abbrev pub symbol_count : List Binder → ℕ
symbol_count [] = 0
symbol_count (Ranged j x ∷ bs) = max (symbol_count bs) (suc j)
symbol_count (Picked j pick ls ∷ bs) = max (symbol_count bs) (suc j)
symbol_count (Passed low high ∷ bs) = symbol_count bs

-- the symbols in their order up to the greatest that is bound, with what is known of each
abbrev pub scope_of : List Binder → List Binding
scope_of bs = map (binding_of bs) (range_with_len 0 (min (symbol_count bs) most_symbols))

-- a form is shown to be at most another
abbrev pub shown_at_most : List Binder → Form → Form → Bool
shown_at_most bs a b = at_most (scope_of bs) a b
