-- Need lines that name no more than another.
use Rattle.std.specs.Prelude.{◌≡◌, List, ℤ, ◌≤ℤ◌, Contains}
use Rattle.std.specs.List.{AllZip}
use Rattle.lin.specs.Forms.{Form}
use Rattle.lin.specs.declared.span.Span1.{Span1}
use Rattle.plan.specs.Symbols.{Symbols, points}
use Rattle.plan.specs.declared.certificate.cert.Need.{Need}

-- a form that is at most another whatever the symbols are: the same multiples, and a constant that is at most the other's
abbrev pub IsUnder : Form → Form → Type 0
IsUnder f g = (f.terms ≡ g.terms) × (f.constant ≤ℤ g.constant)

-- a span whose ends lie within those of another, form by form
abbrev pub SpanLiesIn : Span1 → Span1 → Type 0
SpanLiesIn x y = AllZip IsUnder y.lower x.lower × AllZip IsUnder x.upper y.upper

-- a need line between the same groups as another, all of whose points are points of that one, whatever the symbols are
pub record LiesIn (n m : Need) : Type 0 where
  pub group : n.group ≡ m.group
  pub needed : n.needed ≡ m.needed
  pub within : (s : Symbols) (q : List ℤ) → Contains (points s n.region) q → Contains (points s m.region) q

-- a line for which one of these stands, as this relation says
abbrev pub IsOfOne : (Need → Need → Type 0) → Need → List Need → Type 0
IsOfOne R n ms = (m : Need) × Contains ms m × R n m

abbrev pub LiesInOne : Need → List Need → Type 0
LiesInOne n ms = IsOfOne LiesIn n ms

-- some of these lines, of which one stands for each of them
pub record AreOuterBy (R : Need → Need → Type 0) (ms ns : List Need) : Type 0 where
  pub among : (m : Need) → Contains ms m → Contains ns m
  pub all : (n : Need) → Contains ns n → IsOfOne R n ms

-- some of these lines, in which all of them lie
abbrev pub AreOuterOf : (ms ns : List Need) → Type 0
AreOuterOf ms ns = AreOuterBy LiesIn ms ns
