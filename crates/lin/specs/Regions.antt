-- When a region is shown to lie in another and a span to follow another, and what that means.
use Rattle.std.specs.Prelude.{ℕ, ℤ, pos, ◌+ℤ◌, Bool, true, false, ◌&&◌, Option, List, [], ◌∷◌}
use Rattle.std.specs.List.{list_all, list_any}
use Rattle.std.specs.Option.{option_map_or}
use Rattle.lin.specs.Forms.{Form, number, combined}
use Rattle.lin.specs.Search.{at_most}
use Rattle.lin.specs.Spans.{HoldsIn, IsInRegion, IsLeast, IsGreatest}
use Rattle.lin.specs.declared.scope.Binding.{Binding}
use Rattle.lin.specs.declared.span.Span1.{Span1}

-- each lower form of b is shown to be at most one of a, and each upper form of b at least one of a
abbrev pub span_inside : List Binding → Span1 → Span1 → Bool
span_inside scope a b =
    list_all (λ f. list_any (λ m. at_most scope f m) a.lower) b.lower
    && list_all (λ f. list_any (λ m. at_most scope m f) a.upper) b.upper

-- each span of a lies so in that of b, and there are as many
abbrev pub inside : List Binding → List Span1 → List Span1 → Bool
inside scope [] [] = true
inside scope [] (b ∷ bs) = false
inside scope (a ∷ as') [] = false
inside scope (a ∷ as') (b ∷ bs) = span_inside scope a b && inside scope as' bs

-- the form one above, None where that leaves the limits
abbrev pub successor : Form → Option Form
successor f = combined f (pos 1) (number (pos 1))

-- a form is shown to be at most one above another, and one above a form to be at most another
abbrev pub at_most_successor : List Binding → Form → Form → Bool
at_most_successor scope f u = option_map_or (λ next. at_most scope f next) (successor u) false

abbrev pub successor_at_most : List Binding → Form → Form → Bool
successor_at_most scope u f = option_map_or (λ next. at_most scope next f) (successor u) false

-- each lower form of b is shown to be at most one above each upper form of a, and one of them to be at least that
abbrev pub adjacent : List Binding → Span1 → Span1 → Bool
adjacent scope a b =
    list_all (λ f. list_all (λ u. at_most_successor scope f u) a.upper) b.lower
    && list_any (λ u. list_any (λ f. successor_at_most scope u f) b.lower) a.upper

-- ---- what a yes means

-- each point of the one region is in the other, whatever the symbols stand for
abbrev pub IsInside : List Binding → List Span1 → List Span1 → Type 0
IsInside scope a b = (v : ℕ → ℤ) (p : List ℤ) → HoldsIn scope v → IsInRegion a v p → IsInRegion b v p

-- the second span begins one above the end of the first, whatever the symbols stand for
abbrev pub AreAdjacent : List Binding → Span1 → Span1 → Type 0
AreAdjacent scope a b = (v : ℕ → ℤ) → HoldsIn scope v → (e : ℤ) × IsLeast a.upper v e × IsGreatest b.lower v (e +ℤ pos 1)
