-- The numbers between which a value lies.
use Rattle.std.specs.Prelude.{◌≡◌, ℕ, Bool, List, ℤ, pos, ◌+ℤ◌, ◌-ℤ◌, ◌≤ℤ◌}
use Rattle.std.specs.Ordering.{int_eq}
use Rattle.lin.specs.declared.span.Span1.{Span1}
use Rattle.plan.specs.Symbols.{Symbols, clipped, largest, rising, smallest}
use Rattle.report.specs.declared.known.Binding.{Binding}
use Rattle.report.specs.declared.ranges.Range.{Range}
use Rattle.report.specs.Known.{known_of}

-- whether a symbol can have but one value
abbrev pub has_one : Binding → Bool
has_one b = int_eq b.low b.high

-- the lowest value of each symbol
abbrev pub lows : List Binding → ℕ → ℤ
lows known i = (known_of known i).low

-- the numbers from one to another
abbrev pub numbers : Range → List ℤ
numbers r = rising r.low (clipped ((r.high +ℤ pos 1) -ℤ r.low))

-- the number lies between them
pub record Holds (r : Range) (z : ℤ) : Type 0 where
  pub low : r.low ≤ℤ z
  pub high : z ≤ℤ r.high

-- only one number does
abbrev pub IsOne : Range → Type 0
IsOne r = r.low ≡ r.high

-- the ends of the span are these
pub record HoldsEnds (s : Symbols) (x : Span1) (r : Range) : Type 0 where
  pub low : largest s x.lower ≡ r.low
  pub high : smallest s x.upper ≡ r.high
