-- Groups of which all forms are small.
use Rattle.std.specs.Prelude.{◌≡◌, ℕ, ◌^◌, ◌==◌, ◌<◌, ◌≤◌, Bool, true, false, List, [], ◌∷◌, ◌++◌, length, MatchOption}
use Rattle.std.specs.List.{AllByRecursion, list_any, list_all, range_with_len}
use Rattle.lin.specs.Forms.{Form, is_within_limits}
use Rattle.lin.specs.declared.span.Span1.{Span1}
use Rattle.plan.specs.declared.stmt.Places.{Places}
use Rattle.plan.specs.declared.stmt.Places.TheVariants.{From, Folded}
use Rattle.plan.specs.Plan.{Index, At, Found, Statement, Seq, For, Let, First, Guard, Alloc, Fetch, Store, Publish, Statements, Empty, Then, Group}
use Rattle.plan.specs.Certificate.Cells.{grid_point, group_pieces, own_region}
use Rattle.plan.specs.Certificate.Certificate.{Certificate}
use Rattle.soundness.specs.Obligations.{Rules, Suited}
use Rattle.soundness.specs.Origins.{Given}
use Rattle.interpreter.specs.Narrow.{PieceIsNarrow}
use Rattle.rules.specs.Widths.Widths.{wide_lines}
use Rattle.soundness.specs.Binders.View.{grid_binders}
use Rattle.validation.specs.Groups.Lines.{symbols_after}

-- all symbols of the form are among these
abbrev pub is_over : List ℕ → Form → Bool
is_over symbols f = list_all (λ t. list_any (λ s. s == t.symbol) symbols) f.terms

-- a form within the limits over these symbols
pub record FormStands (symbols : List ℕ) (f : Form) : Type 0 where
  pub over : is_over symbols f ≡ true
  pub limits : is_within_limits f ≡ true

-- the same of spans, places and indices
pub record SpanStands (symbols : List ℕ) (x : Span1) : Type 0 where
  pub lower : AllByRecursion (FormStands symbols) x.lower
  pub upper : AllByRecursion (FormStands symbols) x.upper

abbrev pub PlacesStand : List ℕ → Places → Type 0
PlacesStand symbols (From l n) = FormStands symbols l
PlacesStand symbols (Folded n) = Unit {0}

abbrev pub IndexStands : List ℕ → Index → Type 0
IndexStands symbols (At l) = FormStands symbols l
IndexStands symbols (Found e) = Unit {0}

-- all forms of the statement stand, over the symbols in scope; each loop has a new symbol, which is in scope inside it, and each
-- line `let` one that is in scope behind it, in the rest of its block
abbrev mutual
  pub HasForms : Statement → List ℕ → Type 0
  HasForms (Seq all) symbols = HasFormsInBlock all symbols
  HasForms (For i x kind body) symbols = SpanStands symbols x × (list_any (λ s. s == i) symbols ≡ false) × HasForms body (symbols ++ i ∷ [])
  HasForms (Let i pick forms) symbols = AllByRecursion (FormStands symbols) forms × (list_any (λ s. s == i) symbols ≡ false)
  HasForms (First i a b) symbols = HasForms a symbols × HasForms b symbols
  HasForms (Guard low high body) symbols = FormStands symbols low × FormStands symbols high × HasForms body symbols
  HasForms (Alloc b f places) symbols = AllByRecursion (PlacesStand symbols) places
  HasForms (Fetch b g region) symbols = AllByRecursion (SpanStands symbols) region
  HasForms (Store b k at e) symbols = AllByRecursion (λ c. IndexStands symbols c.index) at
  HasForms (Publish c) symbols = Unit {0}

  pub HasFormsInBlock : Statements → List ℕ → Type 0
  HasFormsInBlock Empty symbols = Unit {0}
  HasFormsInBlock (Then a rest) symbols = HasForms a symbols × HasFormsInBlock rest (symbols_after a symbols)

-- the symbols of a grid
abbrev pub grid_numbers : List ℕ → List ℕ
grid_numbers grid = range_with_len 0 (length grid)

-- a group of few pieces, its region, the region that its pieces own, and its lines, of which each loop's symbol is shown to be an i32
pub record GroupIsNear (rules : Rules) (c : Certificate) (n : ℕ) (g : Group) (line : ℕ) : Type 0 where
  pub few : group_pieces g ≤ 2 ^ 20
  pub region : AllByRecursion (SpanStands []) g.region
  pub own : MatchOption (own_region c.own n) (Unit {0}) (AllByRecursion (SpanStands (grid_numbers g.grid)))
  pub lines : HasForms g.body (grid_numbers g.grid)
  pub loops : wide_lines rules (grid_binders g.grid) line g.body ≡ []

-- then all forms that its pieces come to are narrow, whatever the line that its body is said to begin at
abbrev pub NearIsNarrow : Type 0
NearIsNarrow =
    (given : Given) (rules : Rules) (c : Certificate) (n : ℕ) (g : Group) (line k : ℕ) → Suited given rules → GroupIsNear rules c n g line → k < group_pieces g →
    PieceIsNarrow c n g (grid_point g.grid k)
