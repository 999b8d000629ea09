-- Values of symbols, and what forms, spans and regions come to under them.
use Rattle.std.specs.Prelude.{ℕ, zero, suc, ◌==◌, Bool, if◌then◌else◌, List, [], ◌∷◌, ℤ, pos, negsuc, ◌+ℤ◌, ◌-ℤ◌, fold, flat_map, map}
use Rattle.std.specs.Int.{int_max, int_min}
use Rattle.lin.specs.Forms.{Form, value_of}
use Rattle.lin.specs.Spans.{IsInRegion}
use Rattle.lin.specs.declared.span.Span1.{Span1}

-- the values of symbols, and of which loops it is the first turn
pub record Symbols : Type 0 where
  pub value : ℕ → ℤ
  pub first : ℕ → Bool

-- the same but for one symbol
abbrev pub bind : Symbols → ℕ → ℤ → Bool → Symbols
bind s i z b = record { value = λ j. if j == i then z else s.value j; first = λ j. if j == i then b else s.first j }

-- a form's number
abbrev pub form_value : Form → Symbols → ℤ
form_value l s = value_of l s.value

-- the point lies in the region
abbrev pub InRegion : Symbols → List Span1 → List ℤ → Type 0
InRegion s xs p = IsInRegion xs s.value p

-- the largest and the smallest of some forms, 0 of none
abbrev pub largest : Symbols → List Form → ℤ
largest s [] = pos 0
largest s (l ∷ ls) = fold int_max (form_value l s) (map (λ m. form_value m s) ls)

abbrev pub smallest : Symbols → List Form → ℤ
smallest s [] = pos 0
smallest s (l ∷ ls) = fold int_min (form_value l s) (map (λ m. form_value m s) ls)

-- so many numbers from z on
abbrev pub rising : ℤ → ℕ → List ℤ
rising z zero = []
rising z (suc n) = z ∷ rising (z +ℤ pos 1) n

abbrev pub clipped : ℤ → ℕ
clipped (pos n) = n
clipped (negsuc n) = 0

-- the numbers of a span, rising
abbrev pub turns : Symbols → Span1 → List ℤ
turns s x = let low = largest s x.lower in rising low (clipped ((smallest s x.upper +ℤ pos 1) -ℤ low))

-- the points of a region, the first coordinate fastest
abbrev pub points : Symbols → List Span1 → List (List ℤ)
points s [] = [] ∷ []
points s (x ∷ xs) = flat_map (λ p. map (λ z. z ∷ p) (turns s x)) (points s xs)
