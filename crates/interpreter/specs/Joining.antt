-- Two loops over a store, one in the other, whose turns are taken as those of one loop.
use Rattle.std.specs.Prelude.{◌≡◌, ◌≢◌, ℕ, ◌*◌, ◌<◌, List, [], ◌∷◌, Option, Some, None, ℤ, pos, ◌+ℤ◌, ◌*ℤ◌, int_le}
use Rattle.std.specs.Borrow.{Bor}
use Rattle.std.specs.Int.{int_min}
use Rattle.lin.specs.Forms.{Form, factor_of, number}
use Rattle.lin.specs.declared.span.Span1.{Span1}
use Rattle.plan.specs.declared.stmt.Coordinate.{Coordinate}
use Rattle.plan.specs.declared.stmt.Kind.{Kind}
use Rattle.plan.specs.Plan.{Index, At, Found, Statement, For}
use Rattle.plan.specs.Symbols.{Symbols, bind, form_value}
use Rattle.plan.specs.View.{coordinate_of}
use Rattle.interpreter.specs.Narrow.{FormIsNarrow}
use Rattle.interpreter.specs.StoreLines.{one_line, IsStoreLine}
use Rattle.interpreter.specs.declared.joining.Ends.{Ends}
use Rattle.interpreter.specs.declared.joining.StoreLoop.{StoreLoop}
use Rattle.interpreter.specs.declared.joining.Joined.{Joined}
use Rattle.interpreter.specs.declared.turns.Turns.{Turns}

-- the statement is a loop over this line
pub record IsLoop (a : Statement) (x : StoreLoop) : Type 0 where
  pub kind : Kind
  pub body : Statement
  pub is : a ≡ For x.symbol x.span.now kind body
  pub line : IsStoreLine body x.line

-- the statement is such a loop, or a block of it alone
pub record IsStoreLoop (a : Statement) (x : StoreLoop) : Type 0 where
  pub loop : Statement
  pub one : one_line a ≡ Some loop
  pub is : IsLoop loop x

-- a form rises by as much with one turn of the outer loop as with so many of the inner one
abbrev pub IndexJoins : ℕ → ℕ → ℤ → Index → Type 0
IndexJoins i j n (At l) = factor_of l.terms i ≡ factor_of l.terms j *ℤ n
IndexJoins i j n (Found e) = Unit {0}

abbrev pub CoordinateJoins : ℕ → ℕ → ℤ → Coordinate → Type 0
CoordinateJoins i j n c = IndexJoins i j n (coordinate_of c).index

abbrev pub CoordinatesJoin : ℕ → ℕ → ℤ → List Coordinate → Type 0
CoordinatesJoin i j n [] = Unit {0}
CoordinatesJoin i j n (c ∷ cs) = CoordinateJoins i j n c × CoordinatesJoin i j n cs

-- a loop goes to this number at most, and a form may end it before
abbrev pub AreEnds : ℤ → Option (Bor Form) → List Form → Type 0
AreEnds z None ls = ls ≡ number z ∷ []
AreEnds z (Some l) ls = ls ≡ number z ∷ l.now ∷ []

-- where the form ends it
abbrev pub end_in : Symbols → ℤ → Option (Bor Form) → ℤ
end_in s z None = z
end_in s z (Some l) = int_min z (form_value l.now s)

-- such a form falls by so many with one turn of the outer loop
abbrev pub EndFalls : ℕ → ℤ → Option (Bor Form) → Type 0
EndFalls i n None = Unit {0}
EndFalls i n (Some l) = factor_of l.now.terms i +ℤ n ≡ pos 0

abbrev pub EndIsNarrow : Symbols → Option (Bor Form) → Type 0
EndIsNarrow s None = Unit {0}
EndIsNarrow s (Some l) = FormIsNarrow s l.now

-- so many turns from this number to that one
pub record AreTurns (low high : ℤ) (n : ℕ) : Type 0 where
  pub to : high +ℤ pos 1 ≡ low +ℤ pos n

-- the turns of both loops are those of the inner one, where it goes on behind its last turn while the outer one is in its first
pub record Joins (outer : Turns) (x : StoreLoop) (ends : Ends) (both : Turns) : Type 0 where
  pub symbol : both.symbol ≡ x.symbol
  pub other : outer.symbol ≢ x.symbol
  pub lower : x.span.now.lower ≡ number both.low ∷ []
  pub turns : ℕ
  pub count : ℕ
  pub some : 0 < turns
  pub outer_turns : AreTurns outer.low outer.high turns
  pub inner_turns : AreTurns both.low ends.high count
  pub all_turns : AreTurns both.low both.high (turns * count)
  pub coordinates : CoordinatesJoin outer.symbol x.symbol (pos count) x.line.coordinates.now
  pub falls : EndFalls outer.symbol (pos count) ends.form

pub record AreJoined (outer : Turns) (a : Statement) (x : Joined) : Type 0 where
  pub loop : IsStoreLoop a x.inner
  pub upper : AreEnds x.ends.high x.ends.form x.inner.span.now.upper
  pub joins : Joins outer x.inner x.ends x.turns

-- the symbols in the first turn of a loop
abbrev pub in_first : Turns → Symbols → Symbols
in_first t s = bind s t.symbol t.low (int_le t.low t.low)
