-- Need lines that name no more than another at grid points.
use Rattle.std.specs.Prelude.{◌≡◌, ℕ, List, ℤ, ◌≤ℤ◌, Contains}
use Rattle.lin.specs.declared.span.Span1.{Span1}
use Rattle.plan.specs.Symbols.{Symbols, largest, points, smallest}
use Rattle.plan.specs.declared.certificate.cert.Need.{Need}
use Rattle.plan.specs.Certificate.Cells.{grid_symbols}
use Rattle.shares.specs.Corners.{IsBetween}
use Rattle.shares.specs.Repeated.{AreOuterBy, IsOfOne}

-- the ends of a span lie within those of another, where the symbols have these values
abbrev pub SpanLiesAt : Symbols → Span1 → Span1 → Type 0
SpanLiesAt s x y = (largest s y.lower ≤ℤ largest s x.lower) × (smallest s x.upper ≤ℤ smallest s y.upper)

-- a need line between the same groups as another, all of whose points at a grid point are points of that one there
pub record LiesAt (at : List ℕ) (n m : Need) : Type 0 where
  pub group : n.group ≡ m.group
  pub needed : n.needed ≡ m.needed
  pub within : (q : List ℤ) → Contains (points (grid_symbols at) n.region) q → Contains (points (grid_symbols at) m.region) q

abbrev pub LiesAtOne : List ℕ → Need → List Need → Type 0
LiesAtOne at n ms = IsOfOne (LiesAt at) n ms

-- some of these lines, in which all of them lie at a grid point, and at each between two
abbrev pub AreOuterAt : List ℕ → (ms ns : List Need) → Type 0
AreOuterAt at ms ns = AreOuterBy (LiesAt at) ms ns

abbrev pub AreOuterBetween : (low high : List ℕ) → (ms ns : List Need) → Type 0
AreOuterBetween low high ms ns = (at : List ℕ) → IsBetween low high at → AreOuterAt at ms ns
