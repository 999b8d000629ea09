-- Two loops over a store, one in the other, with a name for the smaller of two forms between them, whose first turns are taken as
-- those of one loop.
use Rattle.std.specs.Prelude.{◌≡◌, ◌≢◌, ℕ, ◌*◌, ◌<◌, List, [], ◌∷◌, Option, Some, None, Result, Ok, Err, true, ℤ, pos, ◌+ℤ◌, ◌*ℤ◌, ◌≤ℤ◌, int_le}
use Rattle.lin.specs.Forms.{factor_of, number}
use Rattle.plan.specs.declared.stmt.Coordinate.{Coordinate}
use Rattle.plan.specs.declared.stmt.Pick.TheVariants.{Min}
use Rattle.plan.specs.Plan.{Index, At, Found, Statement, Let, Seq, Empty, Then}
use Rattle.plan.specs.Symbols.{Symbols, bind, form_value}
use Rattle.plan.specs.View.{coordinate_of}
use Rattle.interpreter.specs.Joining.{AreTurns, IsStoreLoop}
use Rattle.interpreter.specs.Narrow.{FormIsNarrow}
use Rattle.interpreter.specs.States.{Overflows}
use Rattle.interpreter.specs.Steps.{Progress}
use Rattle.interpreter.specs.declared.evaluation.stop.Stop.TheVariants.{Fault, Full}
use Rattle.interpreter.specs.declared.evaluation.stop.Stop.{Stop}
use Rattle.interpreter.specs.declared.joining.StoreLoop.{StoreLoop}
use Rattle.interpreter.specs.declared.shifting.Alike.{Alike}
use Rattle.interpreter.specs.declared.shifting.Name.{Name}
use Rattle.interpreter.specs.declared.shifting.NamedLoop.{NamedLoop}
use Rattle.interpreter.specs.declared.shifting.Series.{Series}
use Rattle.interpreter.specs.declared.turns.Turns.{Turns}

-- ---- statements

-- the line names the smaller of these two forms
abbrev pub IsName : Statement → Name → Type 0
IsName a x = a ≡ Let x.symbol Min (x.form.now ∷ x.other.now ∷ [])

-- the statement is a block of such a line and a loop over a line that stores
pub record IsNamedLoop (a : Statement) (x : NamedLoop) : Type 0 where
  pub line : Statement
  pub loop : Statement
  pub is : a ≡ Seq (Then line (Then loop Empty))
  pub name : IsName line x.name
  pub inner : IsStoreLoop loop x.inner

-- ---- forms

abbrev pub NameIsNarrow : Name → Symbols → Type 0
NameIsNarrow x s = FormIsNarrow s x.form.now × FormIsNarrow s x.other.now

-- the name is its first form, which is the smaller one
abbrev pub IsFirstForm : Name → Symbols → Type 0
IsFirstForm x s = form_value x.form.now s ≤ℤ form_value x.other.now s

-- the symbols where the name is its first form
abbrev pub in_name : Name → Symbols → Symbols
in_name x s = bind s x.symbol (form_value x.form.now s) true

-- the symbols in a turn of a loop
abbrev pub in_turn : Turns → ℤ → Symbols → Symbols
in_turn t z s = bind s t.symbol z (int_le z t.low)

-- a form rises by as much with one turn of the outer loop, with which the name rises by k, as with so many of the inner one
abbrev pub IndexRises : ℕ → ℕ → ℕ → ℤ → ℤ → Index → Type 0
IndexRises i u j k n (At l) = factor_of l.terms i +ℤ factor_of l.terms u *ℤ k ≡ factor_of l.terms j *ℤ n
IndexRises i u j k n (Found e) = Unit {0}

abbrev pub CoordinateRises : ℕ → ℕ → ℕ → ℤ → ℤ → Coordinate → Type 0
CoordinateRises i u j k n c = IndexRises i u j k n (coordinate_of c).index

abbrev pub CoordinatesRise : ℕ → ℕ → ℕ → ℤ → ℤ → List Coordinate → Type 0
CoordinatesRise i u j k n [] = Unit {0}
CoordinatesRise i u j k n (c ∷ cs) = CoordinateRises i u j k n c × CoordinatesRise i u j k n cs

-- ---- turns

-- three symbols are all different
pub record AreApart (i u j : ℕ) : Type 0 where
  pub name : i ≢ u
  pub loops : i ≢ j
  pub inner : u ≢ j

-- the turns of the inner loop, where each coordinate rises by as much with all of them as with one turn of the outer one
pub record IsSeries (x : StoreLoop) (i u : ℕ) (k : ℤ) (r : Series) : Type 0 where
  pub high : ℤ
  pub lower : x.span.now.lower ≡ number r.low ∷ []
  pub upper : x.span.now.upper ≡ number high ∷ []
  pub turns : AreTurns r.low high r.count
  pub coordinates : CoordinatesRise i u x.symbol k (pos r.count) x.line.coordinates.now

-- a turn of the outer loop in which the name is its first form
pub record IsLastAlike (x : Name) (outer : Turns) (s : Symbols) (z : ℤ) : Type 0 where
  pub to : z ≤ℤ outer.high
  pub first : IsFirstForm x (in_turn outer z s)

-- the turns of both loops up to one of the outer loop's, as those of the inner one, which goes on behind its last
pub record AreTurnsTo (outer : Turns) (symbol : ℕ) (r : Series) (last : ℤ) (y : Alike) : Type 0 where
  pub symbol_is : y.turns.symbol ≡ symbol
  pub low : y.turns.low ≡ r.low
  pub turns : ℕ
  pub some : 0 < turns
  pub outer_turns : AreTurns outer.low last turns
  pub all_turns : AreTurns r.low y.turns.high (turns * r.count)
  pub next : y.next ≡ last +ℤ pos 1

-- the turns of both that go on alike: the name is its first form in the last turn of the outer loop, and rises no slower than its other
pub record AreAlike (outer : Turns) (x : NamedLoop) (s : Symbols) (y : Alike) : Type 0 where
  pub series : Series
  pub last : ℤ
  pub apart : AreApart outer.symbol x.name.symbol x.inner.symbol
  pub slower : factor_of x.name.other.now.terms outer.symbol ≤ℤ factor_of x.name.form.now.terms outer.symbol
  pub inner : IsSeries x.inner outer.symbol x.name.symbol (factor_of x.name.form.now.terms outer.symbol) series
  pub first : IsLastAlike x.name outer s last
  pub turns : AreTurnsTo outer x.inner.symbol series last y

-- ---- runs

-- What is left goes on from a turn and from this progress; a fault ends the whole, and so does want of room.
abbrev pub GoesOn : ℕ → Progress → (ℤ → Progress → Option Progress) → Result ℤ Stop → Option Progress → Type 0
GoesOn room x later (Ok z) whole = whole ≡ later z x
GoesOn room x later (Err Fault) whole = whole ≡ None
GoesOn room x later (Err Full) whole = Overflows room whole
