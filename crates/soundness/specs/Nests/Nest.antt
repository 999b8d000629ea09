-- The loops round the one line of a statement that changes a buffer.
use Rattle.std.specs.Prelude.{ℕ, ◌==◌, Bool, true, false, if◌then◌else◌, List, [], ◌∷◌, Option, Some, None, pos}
use Rattle.std.specs.Ordering.{int_eq}
use Rattle.lin.specs.Forms.{Form, is_zero}
use Rattle.lin.specs.declared.form.Multiple.{Multiple}
use Rattle.lin.specs.declared.span.Span1.{Span1}
use Rattle.plan.specs.Plan.{Index, At, Found, Coordinate, Statement, Seq, For, Let, First, Guard, Alloc, Fetch, Store, Publish, Statements, Empty, Then}
use Rattle.soundness.specs.Claims.{changes, block_changes}

pub record Loop : Type 0 where
  pub symbol : ℕ
  pub span : Span1

-- a line and the loops round it, the outermost first
pub record Nest : Type 0 where
  pub loops : List Loop
  pub line : Statement

abbrev pub alone : Statement → Nest
alone a = record { loops = []; line = a }

abbrev pub inside : ℕ → Span1 → Option Nest → Option Nest
inside i x None = None
inside i x (Some n) = Some (record { loops = record { symbol = i; span = x } ∷ n.loops; line = n.line })

-- a line that gives a symbol its number
abbrev pub is_let : Statement → Bool
is_let (Let i pick ls) = true
is_let _ = false

-- the only line that changes the buffer, where it is a fetch or a store and has but loops and blocks round it, and no `let`
-- before it in them
abbrev mutual
  pub nest_of : Statement → ℕ → Option Nest
  nest_of (Seq all) b = block_nest all b
  nest_of (For i x kind body) b = inside i x (nest_of body b)
  nest_of (Let i pick ls) b = None
  nest_of (First i a c) b = None
  nest_of (Guard low high body) b = None
  nest_of (Alloc c f places) b = None
  nest_of (Fetch c g region) b = if c == b then Some (alone (Fetch c g region)) else None
  nest_of (Store c k at e) b = if c == b then Some (alone (Store c k at e)) else None
  nest_of (Publish c) b = None

  pub block_nest : Statements → ℕ → Option Nest
  block_nest Empty b = None
  block_nest (Then a rest) b =
      if changes a b then (if block_changes rest b then None else nest_of a b)
      else (if is_let a then None else block_nest rest b)

-- ---- coordinates that are a loop's symbol

abbrev pub one_term : List Multiple → Option ℕ
one_term (t ∷ []) = if int_eq t.factor (pos 1) then Some t.symbol else None
one_term _ = None

-- the symbol that the form is, if it is one
abbrev pub symbol_of : Form → Option ℕ
symbol_of f = if is_zero f.constant then one_term f.terms else None

abbrev pub is_number : ℕ → Option ℕ → Bool
is_number i None = false
is_number i (Some j) = j == i

abbrev pub index_is : ℕ → Index → Bool
index_is i (At l) = is_number i (symbol_of l)
index_is i (Found e) = false

-- the coordinate is this symbol
abbrev pub is_symbol : ℕ → Coordinate → Bool
is_symbol i c = index_is i c.index
