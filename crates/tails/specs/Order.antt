-- Split maps whose points rise: of two points the last coordinate in which they differ tells which comes first, as a reduction's points
-- are walked, the first coordinate fastest.
use Rattle.std.specs.Prelude.{◌≡◌, ◌⊎◌, ℕ, ◌||◌, ◌&&◌, Bool, true, false, not, if◌then◌else◌, List, [], ◌∷◌, map, Option, Some, None, option_and_then, ℤ, pos, ◌+ℤ◌, ◌<ℤ◌, int_le}
use Rattle.std.specs.List.{list_any, list_all}
use Rattle.lin.specs.Forms.{Form, factor_of, same_terms}
use Rattle.lin.specs.declared.span.Span1.{Span1}
use Rattle.plan.specs.declared.stmt.Pick.TheVariants.{Min, Max}
use Rattle.plan.specs.Symbols.{Symbols}
use Rattle.soundness.specs.Claims.{In}
use Rattle.soundness.specs.Obligations.{exactly, span_has}
use Rattle.tails.specs.Steps.{Step, Turns, Named, Tested}
use Rattle.tails.specs.Moves.{joined, single, span_from, expanded, is_single, is_positive}
use Rattle.tails.specs.Maps.{visited, is_some}

-- ---- what is said

-- the last coordinate in which they differ is smaller in the first
abbrev pub IsBefore : List ℤ → List ℤ → Type 0
IsBefore [] q = ⊥
IsBefore (x ∷ xs) [] = ⊥
IsBefore (x ∷ xs) (y ∷ ys) = IsBefore xs ys ⊎ ((xs ≡ ys) × (x <ℤ y))

-- each point is before every later one, or the same again
abbrev pub AreRising : List (List ℤ) → Type 0
AreRising [] = Unit {0}
AreRising (p ∷ ps) = ((q : List ℤ) → In q ps → IsBefore p q ⊎ (p ≡ q)) × AreRising ps

-- ---- what is asked

-- between which numbers a coordinate is, where a symbol is at least each of some forms and at most each of others
abbrev pub span_over : ℕ → List Form → List Form → Span1 → Option Span1
span_over i ls us y = span_from (expanded false (λ a b. false) i ls y.lower) (expanded false (λ a b. false) i us y.upper)

abbrev pub spans_between : ℕ → List Form → List Form → List Span1 → Option (List Span1)
spans_between i ls us [] = Some []
spans_between i ls us (y ∷ ys) = joined (single (span_over i ls us y)) (spans_between i ls us ys)

-- one number, whatever the symbol is
abbrev pub is_still : ℕ → Span1 → Bool
is_still i y = is_single y && not (span_has i y)

-- the upper form is above the lower one by less than a turn of the symbol moves that
abbrev pub is_short : ℕ → Form → Form → Bool
is_short i f u = same_terms u.terms f.terms && int_le (u.constant +ℤ pos 1) (f.constant +ℤ factor_of f.terms i)

abbrev pub is_short_from : ℕ → List Form → Form → Bool
is_short_from i us f = is_positive (factor_of f.terms i) && list_any (is_short i f) us

-- all numbers of a later turn are above those of an earlier one
abbrev pub moves_on : ℕ → Span1 → Bool
moves_on i y = list_any (is_short_from i y.upper) y.lower

-- the last coordinate that is not still moves on
abbrev pub is_led : ℕ → List Span1 → Bool
is_led i [] = false
is_led i (y ∷ ys) = is_led i ys || (list_all (is_still i) ys && moves_on i y)

-- points of a later turn are not before those of an earlier one: there is one turn, or the coordinates are still, or one leads
abbrev pub is_in_order : ℕ → Span1 → List Span1 → Bool
is_in_order i x ys = is_single x || (list_all (is_still i) ys || is_led i ys)

-- between which numbers the coordinates are over all turns of a step, where its points rise if those of each turn do
abbrev pub before_step : Step → List Span1 → Option (List Span1)
before_step (Turns i x kind) ys = if is_in_order i x ys then spans_between i x.lower x.upper ys else None
before_step (Named i Min ls) ys = spans_between i [] ls ys
before_step (Named i Max ls) ys = spans_between i ls [] ys
before_step (Tested low high) ys = Some ys

-- from the innermost step outwards
abbrev pub spans_rising : List Step → List Form → Option (List Span1)
spans_rising [] fs = Some (map exactly fs)
spans_rising (b ∷ steps) fs = option_and_then (before_step b) (spans_rising steps fs)

-- the points that the turns visit rise
abbrev pub is_ordered : List Step → List Form → Bool
is_ordered steps fs = is_some (spans_rising steps fs)

-- where that is shown they rise, whatever the symbols around the steps stand for
abbrev pub OrderedIsRising : Type 0
OrderedIsRising = (steps : List Step) (fs : List Form) (s : Symbols) → is_ordered steps fs ≡ true → AreRising (visited steps fs s)
