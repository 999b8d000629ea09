-- A histogram over any number of rows, and the same with one thing wrong.
use Rattle.std.specs.Prelude.{◌≡◌, ℕ, suc, List, [], ◌∷◌, map, Some, ℤ, pos, ◌≤ℤ◌, ◌<ℤ◌, codes}
use Rattle.numeric.specs.declared.ty.Ty.TheVariants.{U8, U16}
use Rattle.tree.specs.Term.{Number}
use Rattle.meaning.specs.Image.Raster.{sample}
use Rattle.lin.specs.Forms.{number}
use Rattle.lin.specs.declared.span.Span1.{Span1}
use Rattle.plan.specs.declared.stmt.Places.TheVariants.{From}
use Rattle.plan.specs.Plan.{Statement, Seq, Alloc, Store, Publish, block, Group, Plan}
use Rattle.meaning.specs.Conditions.{IsAlgorithm}
use Rattle.meaning.specs.Value.{calls_of}
use Rattle.plan.specs.Certificate.Certificate.{Certificate}
use Rattle.plan.specs.Certificate.Cells.{own_points, grid_symbols}
use Rattle.plan.specs.Semantics.Worked.{piece, symbol, constants, is, loop}
use Rattle.soundness.specs.Worked.{hist_algorithm, hist_store, IsPieceSound}

-- ---- the plan, over the places 0 to `last`: the update is any statement

-- over the rows of a span, and in each over its three columns
abbrev pub over_rows : Span1 → Statement
over_rows rows = loop 2 rows (loop 3 (constants (pos 0) (pos 2)) (hist_store ∷ []) ∷ [])

abbrev pub all_rows : ℕ → Statement
all_rows rows = over_rows (constants (pos 0) (pos rows))

-- over the three columns, and in each over the rows of a span
abbrev pub over_columns : Span1 → Statement
over_columns rows = loop 3 (constants (pos 0) (pos 2)) (loop 2 rows (hist_store ∷ []) ∷ [])

abbrev pub counts_body : ℕ → Statement → Statement
counts_body last update = Seq (block (
    Alloc 0 (codes "h") (From (number (pos 0)) (suc last) ∷ [])
    ∷ loop 1 (constants (pos 0) (pos last)) (Store 0 0 (is (codes "i") (symbol 1) ∷ []) (Number U16 (pos 0)) ∷ [])
    ∷ update
    ∷ Publish 1 ∷ []))

abbrev pub counts_group : ℕ → Statement → Group
counts_group last update = record {
  function = codes "h";
  region = constants (pos 0) (pos last) ∷ [];
  grid = 1 ∷ [];
  body = counts_body last update;
}

-- of an input of three columns and the rows 0 to `rows`
abbrev pub counts_plan : ℕ → ℕ → Statement → Plan
counts_plan last rows update = record {
  name = codes "hist";
  input = record { name = codes "in"; ty = U8; extents = 3 ∷ suc rows ∷ [] };
  output = record { name = codes "h"; ty = U16; extents = suc last ∷ [] };
  groups = counts_group last update ∷ [];
}

-- the update claims the places 0 to `claimed`
abbrev pub counts_certificate : ℕ → ℕ → Certificate
counts_certificate last claimed = record {
  own = record { group = 0; region = constants (pos 0) (pos last) ∷ [] } ∷ [];
  needs = [];
  claims =
      record { line = 8; buffer = 0; function = codes "h"; definition = 0; region = constants (pos 0) (pos last) ∷ [] }
      ∷ record { line = 13; buffer = 0; function = codes "h"; definition = 1; region = constants (pos 0) (pos claimed) ∷ [] } ∷ [];
  windows = [];
}

-- the one piece is sound
abbrev pub IsCounted : List ℕ → (last rows claimed : ℕ) → Statement → Type 0
IsCounted samples last rows claimed update =
    IsPieceSound (hist_algorithm last rows) samples (counts_plan last rows update) (counts_certificate last claimed) 0 (counts_group last update) (0 ∷ [])

-- ---- what is so of it

-- the samples, which are those of a u8, are places
abbrev pub ArePlaces : List ℕ → (last rows : ℕ) → Type 0
ArePlaces samples last rows = (p : List ℤ) → (sample (3 ∷ suc rows ∷ []) samples p ≤ℤ pos last) × (sample (3 ∷ suc rows ∷ []) samples p ≤ℤ pos 255)

abbrev pub HistIsSound : Type 0
HistIsSound = (samples : List ℕ) (last rows : ℕ) → ArePlaces samples last rows → IsCounted samples last rows last (all_rows rows)

-- what the piece gives is the histogram, each place's number after all steps
abbrev pub HistRunsRight : Type 0
HistRunsRight =
    (samples : List ℕ) (last rows : ℕ) → IsAlgorithm (hist_algorithm last rows) → ArePlaces samples last rows →
    piece (counts_plan last rows (all_rows rows)) (counts_certificate last last) samples (counts_group last (all_rows rows)) (0 ∷ [])
    ≡ Some (map (calls_of (hist_algorithm last rows) samples (codes "h")) (own_points (counts_group last (all_rows rows)) (counts_certificate last last) 0 (grid_symbols (0 ∷ []))))

-- of two rows or more the first is left out
abbrev pub FirstRowIsNeeded : Type 0
FirstRowIsNeeded = (samples : List ℕ) (last rows : ℕ) → IsCounted samples last (suc rows) last (over_rows (constants (pos 1) (pos (suc rows)))) → ⊥

-- of two rows or more the last is left out
abbrev pub LastRowIsNeeded : Type 0
LastRowIsNeeded = (samples : List ℕ) (last rows : ℕ) → IsCounted samples last (suc rows) last (over_rows (constants (pos 0) (pos rows))) → ⊥

-- of two rows or more those of a column come one after another
abbrev pub ColumnsComeFirst : Type 0
ColumnsComeFirst = (samples : List ℕ) (last rows : ℕ) → IsCounted samples last (suc rows) last (over_columns (constants (pos 0) (pos (suc rows)))) → ⊥

-- the update claims the place after the last too
abbrev pub ClaimsAreNotWider : Type 0
ClaimsAreNotWider = (samples : List ℕ) (last rows : ℕ) → IsCounted samples last rows (suc last) (over_rows (constants (pos 0) (pos rows))) → ⊥

-- the first sample leads past the last place
abbrev pub SamplesArePlaces : Type 0
SamplesArePlaces =
    (samples : List ℕ) (last rows : ℕ) → pos last <ℤ sample (3 ∷ suc rows ∷ []) samples (pos 0 ∷ pos 0 ∷ []) →
    sample (3 ∷ suc rows ∷ []) samples (pos 0 ∷ pos 0 ∷ []) ≤ℤ pos 255 → IsCounted samples last rows last (over_rows (constants (pos 0) (pos rows))) → ⊥
