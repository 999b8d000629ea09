-- When all forms that a run comes to are small: they keep the limits of linear forms, and their values are 64-bit numbers.
use Rattle.std.specs.Prelude.{◌≡◌, ℕ, ◌^◌, true, false, List, All, Contains, ℤ, pos, neg_ℤ, ◌≤ℤ◌, ◌<ℤ◌, int_le, MatchOption}
use Rattle.lin.specs.Forms.{Form, is_within_limits}
use Rattle.lin.specs.declared.span.Span1.{Span1}
use Rattle.plan.specs.declared.stmt.Places.{Places}
use Rattle.plan.specs.declared.stmt.Places.TheVariants.{From, Folded}
use Rattle.plan.specs.Plan.{Index, At, Found, Statement, Seq, For, Let, First, Guard, Alloc, Fetch, Store, Publish, Statements, Empty, Then, Group}
use Rattle.plan.specs.Symbols.{Symbols, bind, form_value, largest, turns}
use Rattle.plan.specs.Certificate.Certificate.{Certificate}
use Rattle.plan.specs.Certificate.Cells.{grid_symbols, no_symbols, own_region}
use Rattle.plan.specs.Semantics.Actions.{after}

-- a 64-bit number
pub record IsNumber (z : ℤ) : Type 0 where
  pub from : neg_ℤ (pos (2 ^ 63)) ≤ℤ z
  pub to : z <ℤ pos (2 ^ 63)

-- a form within the limits whose value is a 64-bit number
pub record FormIsNarrow (s : Symbols) (l : Form) : Type 0 where
  pub limits : is_within_limits l ≡ true
  pub value : IsNumber (form_value l s)

abbrev pub FormsAreNarrow : Symbols → List Form → Type 0
FormsAreNarrow s ls = All (FormIsNarrow s) ls

pub record SpanIsNarrow (s : Symbols) (x : Span1) : Type 0 where
  pub lower : FormsAreNarrow s x.lower
  pub upper : FormsAreNarrow s x.upper

abbrev pub RegionIsNarrow : Symbols → List Span1 → Type 0
RegionIsNarrow s xs = All (SpanIsNarrow s) xs

abbrev pub PlacesAreNarrow : Symbols → Places → Type 0
PlacesAreNarrow s (From l n) = FormIsNarrow s l
PlacesAreNarrow s (Folded n) = Unit {0}

abbrev pub IndexIsNarrow : Symbols → Index → Type 0
IndexIsNarrow s (At l) = FormIsNarrow s l
IndexIsNarrow s (Found e) = Unit {0}

-- of a statement, where lines that publish ask this of the symbols
module _ (OwnIsNarrow : Symbols → Type 0) where
  abbrev mutual
    pub StatementIsNarrow : Statement → Symbols → Type 0
    StatementIsNarrow (Seq all) s = BlockIsNarrow all s
    StatementIsNarrow (For i x kind body) s = SpanIsNarrow s x × ((z : ℤ) → Contains (turns s x) z → StatementIsNarrow body (bind s i z (int_le z (largest s x.lower))))
    StatementIsNarrow (Let i pick forms) s = FormsAreNarrow s forms
    StatementIsNarrow (First i a b) s = (s.first i ≡ true → StatementIsNarrow a s) × (s.first i ≡ false → StatementIsNarrow b s)
    StatementIsNarrow (Guard low high body) s = FormIsNarrow s low × FormIsNarrow s high × (int_le (form_value low s) (form_value high s) ≡ true → StatementIsNarrow body s)
    StatementIsNarrow (Alloc b f places) s = All (PlacesAreNarrow s) places
    StatementIsNarrow (Fetch b g region) s = RegionIsNarrow s region
    StatementIsNarrow (Store b k at e) s = All (λ c. IndexIsNarrow s c.index) at
    StatementIsNarrow (Publish c) s = OwnIsNarrow s

    pub BlockIsNarrow : Statements → Symbols → Type 0
    BlockIsNarrow Empty s = Unit {0}
    BlockIsNarrow (Then a rest) s = StatementIsNarrow a s × BlockIsNarrow rest (after a s)

-- the own region of the group where the symbols have these values, and the group's own
pub record OwnIsNarrow (c : Certificate) (number : ℕ) (g : Group) (s : Symbols) : Type 0 where
  pub own : MatchOption (own_region c.own number) (Unit {0}) (RegionIsNarrow s)
  pub group : RegionIsNarrow no_symbols g.region

-- all forms that the piece of a group at a grid point comes to
abbrev pub PieceIsNarrow : Certificate → ℕ → Group → List ℕ → Type 0
PieceIsNarrow c number g at = StatementIsNarrow (OwnIsNarrow c number g) g.body (grid_symbols at)
