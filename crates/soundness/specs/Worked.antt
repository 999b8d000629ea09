-- Plans written out, with their algorithms, whose pieces are sound.
use Rattle.std.specs.Prelude.{◌≡◌, ℕ, suc, ◌≤◌, ◌<◌, List, [], ◌∷◌, map, Some, ℤ, pos, negsuc, ◌≤ℤ◌, codes}
use Rattle.numeric.specs.declared.ty.Ty.TheVariants.{U8, U16, I32}
use Rattle.numeric.specs.declared.op.Op.TheVariants.{Add, Sub, Div}
use Rattle.tree.specs.Term.{Term, Number, Name, Call, Binary, Clamp, Cast, End, More}
use Rattle.meaning.specs.Algorithm.{Algorithm}
use Rattle.meaning.specs.Image.Raster.{sample}
use Rattle.lin.specs.Forms.{number}
use Rattle.lin.specs.declared.span.Span1.{Span1}
use Rattle.plan.specs.declared.stmt.Places.TheVariants.{From}
use Rattle.meaning.specs.Value.{calls_of}
use Rattle.plan.specs.Plan.{Statement, Seq, Alloc, Store, Publish, block, Group, Plan}
use Rattle.plan.specs.Symbols.{Symbols}
use Rattle.plan.specs.Lines.{body_line}
use Rattle.plan.specs.Certificate.Certificate.{Certificate}
use Rattle.plan.specs.Certificate.Cells.{own_points, grid_symbols}
use Rattle.plan.specs.Semantics.Worked.{piece, plus, symbol, constants, is, finds, loop, load, slide_group, slide_plan, slide_certificate, clamped_row, scan_group, scan_plan, scan_certificate}
use Rattle.soundness.specs.Given.{outline_of, given_of}
use Rattle.soundness.specs.Claims.{IsSound}
use Rattle.soundness.specs.Origins.{Given}
use Rattle.soundness.specs.Right.{at_start}
use Rattle.soundness.specs.Obligations.{Lies, exactly, Binder, Ranged, Respects, Rules, AllMeant, Suited, obligations}
use Rattle.soundness.specs.Shown.{start}

-- the piece of a group at a grid point is sound
abbrev pub IsPieceSound : Algorithm → List ℕ → Plan → Certificate → ℕ → Group → List ℕ → Type 0
IsPieceSound a samples p c number g at = IsSound (given_of a samples (outline_of p c number g)) g.body (body_line p number) (at_start (grid_symbols at))

-- ---- a running sum: s(x) = in[clamp(x, 0, 3)]; over r from 1 to 3, s(r) = s(r) + s(r - 1)

abbrev pub scan_algorithm : Algorithm
scan_algorithm = record {
  name = codes "scan";
  input = codes "in";
  input_ty = U8;
  input_extents = 4 ∷ [];
  functions = record {
    name = codes "s";
    ty = U8;
    variables = codes "x" ∷ [];
    value = Call (codes "in") (More (Clamp (Name (codes "x")) (Number I32 (pos 0)) (Number I32 (pos 3))) End);
    changes = record {
      ranges = record { variable = codes "r"; low = pos 1; high = pos 3 } ∷ [];
      at = Name (codes "r") ∷ [];
      value = Binary Add (Call (codes "s") (More (Name (codes "r")) End)) (Call (codes "s") (More (Binary Sub (Name (codes "r")) (Number I32 (pos 1))) End));
    } ∷ [];
  } ∷ [];
  output = codes "s";
  output_extents = 4 ∷ [];
}

abbrev pub ScanIsSound : Type 0
ScanIsSound = (samples : List ℕ) → IsPieceSound scan_algorithm samples scan_plan scan_certificate 0 scan_group (0 ∷ [])

-- the piece's lines, with the update over r from some number on
abbrev pub scan_body : ℤ → Statement
scan_body low = Seq (block (
    Alloc 0 (codes "s") (From (number (pos 0)) 4 ∷ [])
    ∷ loop 1 (constants (pos 0) (pos 3)) (Store 0 0 (is (codes "x") (symbol 1) ∷ [])
    (Call (codes "in") (More (Clamp (Name (codes "x")) (Number I32 (pos 0)) (Number I32 (pos 3))) End)) ∷ [])
    ∷ loop 2 (constants low (pos 3)) (Store 0 1 (finds (codes "x") (Name (codes "r")) ∷ is (codes "r") (symbol 2) ∷ [])
    (Binary Add (load 0 (Name (codes "r") ∷ [])) (load 0 (Binary Sub (Name (codes "r")) (Number I32 (pos 1)) ∷ []))) ∷ [])
    ∷ Publish 1 ∷ []))

abbrev pub scan_given : List ℕ → Given
scan_given samples = given_of scan_algorithm samples (outline_of scan_plan scan_certificate 0 scan_group)

-- a piece's grid has one point
abbrev pub scan_grid : List Binder
scan_grid = Ranged 0 (constants (pos 0) (pos 0)) ∷ []

-- what the rules say of the running sum's indices
pub record BoundScan (rules : Rules) : Type 0 where
  pub extents : rules.extents ≡ constants (pos 0) (pos 3) ∷ []
  pub own : rules.own ≡ constants (pos 0) (pos 3) ∷ []
  pub last : rules.last (codes "s") ≡ 1
  -- the clamped column lies in the input; the update's place r, and r - 1
  pub column : (s : Symbols) (z : ℤ) → Respects (Ranged 1 (constants (pos 0) (pos 3)) ∷ scan_grid) s →
      Lies s (rules.interval (Ranged 1 (constants (pos 0) (pos 3)) ∷ scan_grid) (codes "x" ∷ []) (exactly (symbol 1) ∷ []) (Clamp (Name (codes "x")) (Number I32 (pos 0)) (Number I32 (pos 3)))) z →
      (pos 0 ≤ℤ z) × (z ≤ℤ pos 3)
  pub place : (x : Span1) → rules.interval (Ranged 2 (constants (pos 1) (pos 3)) ∷ scan_grid) (codes "x" ∷ codes "r" ∷ []) (x ∷ exactly (symbol 2) ∷ []) (Name (codes "r")) ≡ exactly (symbol 2)
  pub before : (x : Span1) → rules.interval (Ranged 2 (constants (pos 1) (pos 3)) ∷ scan_grid) (codes "x" ∷ codes "r" ∷ []) (x ∷ exactly (symbol 2) ∷ []) (Binary Sub (Name (codes "r")) (Number I32 (pos 1))) ≡ exactly (plus (negsuc 0) (pos 1) 2)

-- all that the running sum's lines ask for holds; with the first point of the reduction left out it does not
pub record ScanIsMeant : Type 0 where
  pub all : (samples : List ℕ) (rules : Rules) → BoundScan rules → AllMeant (scan_given samples) (obligations (scan_given samples).outline rules (scan_body (pos 1)) (body_line scan_plan 0) (start scan_grid))
  pub one_left_out : (samples : List ℕ) (rules : Rules) → AllMeant (scan_given samples) (obligations (scan_given samples).outline rules (scan_body (pos 2)) (body_line scan_plan 0) (start scan_grid)) → ⊥
  -- so it is sound, by the law
  pub sound : (samples : List ℕ) (rules : Rules) → Suited (scan_given samples) rules → BoundScan rules → IsPieceSound scan_algorithm samples scan_plan scan_certificate 0 scan_group (0 ∷ [])

-- ---- a sliding window: f(x, y) = in[x, y] + 1, and out the mean of f in three rows, those beyond the ends moved to them

abbrev f_at : Term → Term
f_at row = Cast U16 (Call (codes "f") (More (Name (codes "x")) (More row End)))

abbrev pub slide_algorithm : Algorithm
slide_algorithm = record {
  name = codes "slide";
  input = codes "in";
  input_ty = U8;
  input_extents = 4 ∷ 8 ∷ [];
  functions =
      record {
        name = codes "f";
        ty = U8;
        variables = codes "x" ∷ codes "y" ∷ [];
        value = Binary Add (Call (codes "in") (More (Name (codes "x")) (More (Name (codes "y")) End))) (Number U8 (pos 1));
        changes = [];
      }
      ∷ record {
        name = codes "out";
        ty = U8;
        variables = codes "x" ∷ codes "y" ∷ [];
        value = Cast U8 (Binary Div (Binary Add (Binary Add
            (f_at (clamped_row (Binary Sub (Name (codes "y")) (Number I32 (pos 1)))))
            (f_at (Name (codes "y"))))
            (f_at (clamped_row (Binary Add (Name (codes "y")) (Number I32 (pos 1))))))
            (Number U16 (pos 3)));
        changes = [];
      } ∷ [];
  output = codes "out";
  output_extents = 4 ∷ 8 ∷ [];
}

abbrev pub slide_given : List ℕ → ℕ → Given
slide_given samples fold = given_of slide_algorithm samples (outline_of (slide_plan fold) (slide_certificate fold) 0 (slide_group fold))

-- with a fold of three rows or more each piece is sound, and with two none is
pub record SlideIsSound : Type 0 where
  pub three_and_more : (samples : List ℕ) (fold at : ℕ) → 3 ≤ fold → at < 2 → IsPieceSound slide_algorithm samples (slide_plan fold) (slide_certificate fold) 0 (slide_group fold) (at ∷ [])
  pub two_are_few : (samples : List ℕ) (at : ℕ) → at < 2 → IsPieceSound slide_algorithm samples (slide_plan 2) (slide_certificate 2) 0 (slide_group 2) (at ∷ []) → ⊥

-- what a piece over three rows or more gives is the output's values at its cells
abbrev pub SlideRunsRight : Type 0
SlideRunsRight =
    (samples : List ℕ) (fold at : ℕ) → 3 ≤ fold → at < 2 →
    piece (slide_plan fold) (slide_certificate fold) samples (slide_group fold) (at ∷ [])
    ≡ Some (map (calls_of slide_algorithm samples (codes "out")) (own_points (slide_group fold) (slide_certificate fold) 0 (grid_symbols (at ∷ []))))

-- ---- a histogram: h(i) = 0; over rx from 0 to 2 and ry from 0 to `rows`, h(in[rx, ry]) = h(in[rx, ry]) + 1

abbrev pub sampled : Term
sampled = Cast I32 (Call (codes "in") (More (Name (codes "rx")) (More (Name (codes "ry")) End)))

-- over the places 0 to `last`, of an input of three columns and the rows 0 to `rows`
abbrev pub hist_algorithm : ℕ → ℕ → Algorithm
hist_algorithm last rows = record {
  name = codes "hist";
  input = codes "in";
  input_ty = U8;
  input_extents = 3 ∷ suc rows ∷ [];
  functions = record {
    name = codes "h";
    ty = U16;
    variables = codes "i" ∷ [];
    value = Number U16 (pos 0);
    changes = record {
      ranges = record { variable = codes "rx"; low = pos 0; high = pos 2 } ∷ record { variable = codes "ry"; low = pos 0; high = pos rows } ∷ [];
      at = sampled ∷ [];
      value = Binary Add (Call (codes "h") (More sampled End)) (Number U16 (pos 1));
    } ∷ [];
  } ∷ [];
  output = codes "h";
  output_extents = suc last ∷ [];
}

abbrev pub hist_store : Statement
hist_store = Store 0 1 (finds (codes "i") sampled ∷ is (codes "rx") (symbol 3) ∷ is (codes "ry") (symbol 2) ∷ []) (Binary Add (load 0 (sampled ∷ [])) (Number U16 (pos 1)))

abbrev pub hist_group : ℕ → ℕ → Group
hist_group last rows = record {
  function = codes "h";
  region = constants (pos 0) (pos last) ∷ [];
  grid = 1 ∷ [];
  body = Seq (block (
      Alloc 0 (codes "h") (From (number (pos 0)) (suc last) ∷ [])
      ∷ loop 1 (constants (pos 0) (pos last)) (Store 0 0 (is (codes "i") (symbol 1) ∷ []) (Number U16 (pos 0)) ∷ [])
      ∷ loop 2 (constants (pos 0) (pos rows)) (loop 3 (constants (pos 0) (pos 2)) (hist_store ∷ []) ∷ [])
      ∷ Publish 1 ∷ []));
}

abbrev pub hist_plan : ℕ → ℕ → Plan
hist_plan last rows = record {
  name = codes "hist";
  input = record { name = codes "in"; ty = U8; extents = 3 ∷ suc rows ∷ [] };
  output = record { name = codes "h"; ty = U16; extents = suc last ∷ [] };
  groups = hist_group last rows ∷ [];
}

abbrev pub hist_certificate : ℕ → ℕ → Certificate
hist_certificate last rows = record {
  own = record { group = 0; region = constants (pos 0) (pos last) ∷ [] } ∷ [];
  needs = [];
  claims =
      record { line = 8; buffer = 0; function = codes "h"; definition = 0; region = constants (pos 0) (pos last) ∷ [] }
      ∷ record { line = 13; buffer = 0; function = codes "h"; definition = 1; region = constants (pos 0) (pos last) ∷ [] } ∷ [];
  windows = [];
}

-- over two rows of the input, where the samples, which are those of a u8, are places
abbrev pub HistIsSound : Type 0
HistIsSound = (samples : List ℕ) (last : ℕ) → ((p : List ℤ) → (sample (3 ∷ 2 ∷ []) samples p ≤ℤ pos last) × (sample (3 ∷ 2 ∷ []) samples p ≤ℤ pos 255)) →
    IsPieceSound (hist_algorithm last 1) samples (hist_plan last 1) (hist_certificate last 1) 0 (hist_group last 1) (0 ∷ [])
