-- Plans written out, and what their pieces give.
use Rattle.std.specs.Prelude.{◌≡◌, ℕ, ◌+◌, List, [], ◌∷◌, ◌++◌, map, length, Option, Some, None, ℤ, pos, negsuc, codes}
use Rattle.numeric.specs.declared.ty.Ty.TheVariants.{U8, U16, I32}
use Rattle.numeric.specs.declared.op.Op.TheVariants.{Add, Sub, Div}
use Rattle.numeric.specs.declared.op.Comparison.TheVariants.{Less}
use Rattle.tree.specs.declared.value.Value.{Value}
use Rattle.tree.specs.Term.{Term, Number, Name, Call, Binary, Clamp, Cast, Choice, Terms, End, More, Test, Compares, indices}
use Rattle.tree.specs.Meaning.{typed}
use Rattle.lin.specs.Forms.{Form, number}
use Rattle.lin.specs.declared.span.Span1.{Span1}
use Rattle.plan.specs.declared.stmt.Kind.TheVariants.{Serial}
use Rattle.plan.specs.declared.stmt.Places.{Places}
use Rattle.plan.specs.declared.stmt.Places.TheVariants.{From, Folded}
use Rattle.plan.specs.Plan.{Index, At, Found, Coordinate, Statement, Seq, For, Let, First, Guard, Alloc, Fetch, Store, Publish, block, Group, Plan}
use Rattle.plan.specs.Certificate.Certificate.{Claim, Certificate}
use Rattle.plan.specs.Lines.{first_lines, body_line, certificate_line}
use Rattle.plan.specs.Certificate.Lines.{own_line, claim_line, window_line, end_line}
use Rattle.plan.specs.Certificate.Cells.{cells, pieces, own_points, grid_symbols}
use Rattle.plan.specs.Semantics.Setting.{piece_run}

-- ---- forms and parts

abbrev pub plus : ℤ → ℤ → ℕ → Form
plus c k i = record { constant = c; terms = record { symbol = i; factor = k } ∷ [] }

abbrev pub symbol : ℕ → Form
symbol i = plus (pos 0) (pos 1) i

abbrev pub between : Form → Form → Span1
between l u = record { lower = l ∷ []; upper = u ∷ [] }

abbrev pub constants : ℤ → ℤ → Span1
constants l u = between (number l) (number u)

abbrev pub is : List ℕ → Form → Coordinate
is name form = record { variable = name; index = At form }

abbrev pub finds : List ℕ → Term → Coordinate
finds name e = record { variable = name; index = Found e }

abbrev pub loop : ℕ → Span1 → List Statement → Statement
loop i x body = For i x Serial (Seq (block body))

abbrev pub load : ℕ → List Term → Term
load c at = Call (codes "@" ++ (48 + c) ∷ []) (indices at)

abbrev pub bytes : List ℕ → List Value
bytes = map (λ n. typed U8 (pos n))

abbrev pub no_cells : List ℕ → List ℤ → Value
no_cells f p = typed I32 (pos 0)

abbrev pub piece : Plan → Certificate → List ℕ → Group → List ℕ → Option (List Value)
piece p c samples g at = piece_run p c samples no_cells 0 g at

-- ---- one more than each pixel, in pieces of three and seven rows

abbrev pub inc_group : Group
inc_group = record {
  function = codes "out";
  region = constants (pos 0) (pos 1) ∷ constants (pos 0) (pos 9) ∷ [];
  grid = 2 ∷ [];
  body = Seq (block (
      Alloc 0 (codes "out") (From (number (pos 0)) 2 ∷ From (plus (pos 0) (pos 3) 0) 7 ∷ [])
      ∷ loop 1 (between (plus (pos 0) (pos 3) 0) (plus (pos 2) (pos 7) 0)) (
      loop 2 (constants (pos 0) (pos 1)) (
      Store 0 0 (is (codes "x") (symbol 2) ∷ is (codes "y") (symbol 1) ∷ [])
      (Binary Add (Call (codes "in") (More (Name (codes "x")) (More (Name (codes "y")) End))) (Number U8 (pos 1))) ∷ []) ∷ [])
      ∷ Publish 0 ∷ []));
}

abbrev pub inc_plan : Plan
inc_plan = record {
  name = codes "inc";
  input = record { name = codes "in"; ty = U8; extents = 2 ∷ 10 ∷ [] };
  output = record { name = codes "out"; ty = U8; extents = 2 ∷ 10 ∷ [] };
  groups = inc_group ∷ [];
}

abbrev pub inc_own : List Span1
inc_own = constants (pos 0) (pos 1) ∷ between (plus (pos 0) (pos 3) 0) (plus (pos 2) (pos 7) 0) ∷ []

abbrev pub inc_certificate : Certificate
inc_certificate = record {
  own = record { group = 0; region = inc_own } ∷ [];
  needs = [];
  claims = record { line = 10; buffer = 0; function = codes "out"; definition = 0; region = inc_own } ∷ [];
  windows = [];
}

abbrev pub twenty : List ℕ
twenty = 0 ∷ 1 ∷ 2 ∷ 3 ∷ 4 ∷ 5 ∷ 6 ∷ 7 ∷ 8 ∷ 9 ∷ 10 ∷ 11 ∷ 12 ∷ 13 ∷ 14 ∷ 15 ∷ 16 ∷ 17 ∷ 18 ∷ 19 ∷ []

abbrev pub IncPiecesGive : Type 0
IncPiecesGive =
    (piece inc_plan inc_certificate twenty inc_group (0 ∷ []) ≡ Some (bytes (1 ∷ 2 ∷ 3 ∷ 4 ∷ 5 ∷ 6 ∷ [])))
    × (piece inc_plan inc_certificate twenty inc_group (1 ∷ []) ≡ Some (bytes (7 ∷ 8 ∷ 9 ∷ 10 ∷ 11 ∷ 12 ∷ 13 ∷ 14 ∷ 15 ∷ 16 ∷ 17 ∷ 18 ∷ 19 ∷ 20 ∷ [])))

-- ---- the mean of a pixel and the next

abbrev pub box2_value : Term
box2_value = Cast U8 (Binary Div (Binary Add
    (Cast U16 (Call (codes "in") (More (Name (codes "x")) End)))
    (Cast U16 (Call (codes "in") (More (Clamp (Binary Add (Name (codes "x")) (Number I32 (pos 1))) (Number I32 (pos 0)) (Number I32 (pos 3))) End))))
    (Number U16 (pos 2)))

-- over a buffer of this many places
abbrev pub box2_group : ℕ → Group
box2_group n = record {
  function = codes "out";
  region = constants (pos 0) (pos 3) ∷ [];
  grid = 1 ∷ [];
  body = Seq (block (
      Alloc 0 (codes "out") (From (number (pos 0)) n ∷ [])
      ∷ loop 1 (constants (pos 0) (pos 3)) (Store 0 0 (is (codes "x") (symbol 1) ∷ []) box2_value ∷ [])
      ∷ Publish 0 ∷ []));
}

abbrev pub box2_plan : ℕ → Plan
box2_plan n = record {
  name = codes "box2";
  input = record { name = codes "in"; ty = U8; extents = 4 ∷ [] };
  output = record { name = codes "out"; ty = U8; extents = 4 ∷ [] };
  groups = box2_group n ∷ [];
}

abbrev pub box2_certificate : Certificate
box2_certificate = record {
  own = record { group = 0; region = constants (pos 0) (pos 3) ∷ [] } ∷ [];
  needs = [];
  claims = record { line = 8; buffer = 0; function = codes "out"; definition = 0; region = constants (pos 0) (pos 3) ∷ [] } ∷ [];
  windows = [];
}

abbrev pub box2_samples : List ℕ
box2_samples = 10 ∷ 20 ∷ 30 ∷ 41 ∷ []

-- with a place too few there is a fault
abbrev pub Box2Gives : Type 0
Box2Gives =
    (piece (box2_plan 4) box2_certificate box2_samples (box2_group 4) (0 ∷ []) ≡ Some (bytes (15 ∷ 25 ∷ 35 ∷ 41 ∷ [])))
    × (piece (box2_plan 3) box2_certificate box2_samples (box2_group 3) (0 ∷ []) ≡ None)

-- ---- a running sum: an update over 1 to 3

abbrev pub scan_group : Group
scan_group = record {
  function = codes "s";
  region = constants (pos 0) (pos 3) ∷ [];
  grid = 1 ∷ [];
  body = Seq (block (
      Alloc 0 (codes "s") (From (number (pos 0)) 4 ∷ [])
      ∷ loop 1 (constants (pos 0) (pos 3)) (Store 0 0 (is (codes "x") (symbol 1) ∷ [])
      (Call (codes "in") (More (Clamp (Name (codes "x")) (Number I32 (pos 0)) (Number I32 (pos 3))) End)) ∷ [])
      ∷ loop 2 (constants (pos 1) (pos 3)) (Store 0 1 (finds (codes "x") (Name (codes "r")) ∷ is (codes "r") (symbol 2) ∷ [])
      (Binary Add (load 0 (Name (codes "r") ∷ [])) (load 0 (Binary Sub (Name (codes "r")) (Number I32 (pos 1)) ∷ []))) ∷ [])
      ∷ Publish 1 ∷ []));
}

abbrev pub scan_plan : Plan
scan_plan = record {
  name = codes "scan";
  input = record { name = codes "in"; ty = U8; extents = 4 ∷ [] };
  output = record { name = codes "s"; ty = U8; extents = 4 ∷ [] };
  groups = scan_group ∷ [];
}

abbrev pub scan_certificate : Certificate
scan_certificate = record {
  own = record { group = 0; region = constants (pos 0) (pos 3) ∷ [] } ∷ [];
  needs = [];
  claims =
      record { line = 8; buffer = 0; function = codes "s"; definition = 0; region = constants (pos 0) (pos 3) ∷ [] }
      ∷ record { line = 11; buffer = 0; function = codes "s"; definition = 1; region = constants (pos 0) (pos 3) ∷ [] } ∷ [];
  windows = [];
}

abbrev pub ScanGives : Type 0
ScanGives = piece scan_plan scan_certificate (1 ∷ 2 ∷ 3 ∷ 4 ∷ []) scan_group (0 ∷ []) ≡ Some (bytes (1 ∷ 3 ∷ 6 ∷ 10 ∷ []))

-- ---- a sliding window: in each turn over a row y, the rows y - 1 to y + 1 of f, over as many places as the fold

abbrev pub f_at : Term → Term
f_at row = Cast U16 (load 0 (Name (codes "x") ∷ row ∷ []))

abbrev pub clamped_row : Term → Term
clamped_row e = Clamp e (Number I32 (pos 0)) (Number I32 (pos 7))

abbrev pub slide_value : Term
slide_value = Cast U8 (Binary Div (Binary Add (Binary Add
    (f_at (clamped_row (Binary Sub (Name (codes "y")) (Number I32 (pos 1)))))
    (f_at (Name (codes "y"))))
    (f_at (clamped_row (Binary Add (Name (codes "y")) (Number I32 (pos 1))))))
    (Number U16 (pos 3)))

abbrev pub f_row : ℕ → ℕ → Span1 → Statement
f_row i j rows = loop i rows (loop j (constants (pos 0) (pos 3)) (
    Store 1 0 (is (codes "x") (symbol j) ∷ is (codes "y") (symbol i) ∷ [])
    (Binary Add (Call (codes "in") (More (Name (codes "x")) (More (Name (codes "y")) End))) (Number U8 (pos 1))) ∷ []) ∷ [])

-- the rows that a turn needs: from max(0, y - 1) to min(7, y + 1)
abbrev pub window_rows : ℕ → Span1
window_rows y = record { lower = number (pos 0) ∷ plus (negsuc 0) (pos 1) y ∷ []; upper = number (pos 7) ∷ plus (pos 1) (pos 1) y ∷ [] }

-- the row that a later turn adds
abbrev pub new_rows : ℕ → Span1
new_rows y = record { lower = plus (pos 1) (pos 1) y ∷ []; upper = number (pos 7) ∷ plus (pos 1) (pos 1) y ∷ [] }

abbrev pub slide_group : ℕ → Group
slide_group fold = record {
  function = codes "out";
  region = constants (pos 0) (pos 3) ∷ constants (pos 0) (pos 7) ∷ [];
  grid = 2 ∷ [];
  body = Seq (block (
      Alloc 0 (codes "out") (From (number (pos 0)) 4 ∷ From (plus (pos 0) (pos 4) 0) 4 ∷ [])
      ∷ Alloc 1 (codes "f") (From (number (pos 0)) 4 ∷ Folded fold ∷ [])
      ∷ loop 1 (between (plus (pos 0) (pos 4) 0) (plus (pos 3) (pos 4) 0)) (
      First 1 (Seq (block (f_row 2 3 (window_rows 1) ∷ []))) (Seq (block (f_row 4 5 (new_rows 1) ∷ [])))
      ∷ loop 6 (constants (pos 0) (pos 3)) (Store 0 0 (is (codes "x") (symbol 6) ∷ is (codes "y") (symbol 1) ∷ []) slide_value ∷ []) ∷ [])
      ∷ Publish 1 ∷ []));
}

abbrev pub slide_plan : ℕ → Plan
slide_plan fold = record {
  name = codes "slide";
  input = record { name = codes "in"; ty = U8; extents = 4 ∷ 8 ∷ [] };
  output = record { name = codes "out"; ty = U8; extents = 4 ∷ 8 ∷ [] };
  groups = slide_group fold ∷ [];
}

abbrev pub slide_own : List Span1
slide_own = constants (pos 0) (pos 3) ∷ between (plus (pos 0) (pos 4) 0) (plus (pos 3) (pos 4) 0) ∷ []

abbrev pub slide_certificate : ℕ → Certificate
slide_certificate fold = record {
  own = record { group = 0; region = slide_own } ∷ [];
  needs = [];
  claims =
      record { line = 20; buffer = 1; function = codes "f"; definition = 0; region = constants (pos 0) (pos 3) ∷ window_rows 1 ∷ [] }
      ∷ record { line = 24; buffer = 0; function = codes "out"; definition = 0; region = slide_own } ∷ [];
  windows = record { claim = 0; symbol = 1; dimension = 1; fold = fold; span = window_rows 1 } ∷ [];
}

-- row y of the input holds 3 * y
abbrev pub slide_samples : List ℕ
slide_samples = 0 ∷ 0 ∷ 0 ∷ 0 ∷ 3 ∷ 3 ∷ 3 ∷ 3 ∷ 6 ∷ 6 ∷ 6 ∷ 6 ∷ 9 ∷ 9 ∷ 9 ∷ 9 ∷ 12 ∷ 12 ∷ 12 ∷ 12 ∷ 15 ∷ 15 ∷ 15 ∷ 15 ∷ 18 ∷ 18 ∷ 18 ∷ 18 ∷ 21 ∷ 21 ∷ 21 ∷ 21 ∷ []

abbrev pub slide_right : Option (List Value)
slide_right = Some (bytes (2 ∷ 2 ∷ 2 ∷ 2 ∷ 4 ∷ 4 ∷ 4 ∷ 4 ∷ 7 ∷ 7 ∷ 7 ∷ 7 ∷ 10 ∷ 10 ∷ 10 ∷ 10 ∷ []))

abbrev pub slide_piece : ℕ → Option (List Value)
slide_piece fold = piece (slide_plan fold) (slide_certificate fold) slide_samples (slide_group fold) (0 ∷ [])

-- with folds of three and more each row is there when it is read; with two a row is read where another lies, so that the
-- second row gives (7 + 4 + 7) / 3 in place of (1 + 4 + 7) / 3
abbrev pub SlideGives : Type 0
SlideGives =
    (slide_piece 3 ≡ slide_right) × (slide_piece 4 ≡ slide_right) × (slide_piece 7 ≡ slide_right)
    × (slide_piece 2 ≡ Some (bytes (2 ∷ 2 ∷ 2 ∷ 2 ∷ 6 ∷ 6 ∷ 6 ∷ 6 ∷ 9 ∷ 9 ∷ 9 ∷ 9 ∷ 12 ∷ 12 ∷ 12 ∷ 12 ∷ [])))

-- ---- lines

abbrev pub LinesAre : Type 0
LinesAre =
    (first_lines inc_group.body (body_line inc_plan 0) ≡ 5 ∷ 6 ∷ 7 ∷ 8 ∷ 11 ∷ [])
    × (certificate_line inc_plan ≡ 12) × (own_line 12 0 ≡ 13) × (claim_line inc_certificate 12 0 ≡ 14) × (end_line inc_certificate 12 ≡ 15)
    × (first_lines (slide_group 3).body 5 ≡ 5 ∷ 6 ∷ 7 ∷ 8 ∷ 9 ∷ 10 ∷ 11 ∷ 15 ∷ 16 ∷ 17 ∷ 21 ∷ 22 ∷ 25 ∷ [])
    × (window_line (slide_certificate 3) (certificate_line (slide_plan 3)) 0 ≡ 30)

-- ---- cells and pieces

abbrev pub CellsAre : Type 0
CellsAre =
    (length (cells inc_plan) ≡ 20) × (length (pieces inc_plan) ≡ 2)
    × (length (own_points inc_group inc_certificate 0 (grid_symbols (0 ∷ []))) ≡ 6) × (length (own_points inc_group inc_certificate 0 (grid_symbols (1 ∷ []))) ≡ 14)
    × (own_points (box2_group 4) box2_certificate 0 (grid_symbols (0 ∷ [])) ≡ (pos 0 ∷ []) ∷ (pos 1 ∷ []) ∷ (pos 2 ∷ []) ∷ (pos 3 ∷ []) ∷ [])

-- ---- faults: a place outside its buffer (above), an input point off the extents though the arm is never taken, and a read of
-- a place that is not set

abbrev pub arm_value : Term
arm_value = Choice (Compares Less (Name (codes "x")) (Number I32 (pos 0)))
    (Call (codes "in") (More (Binary Sub (Name (codes "x")) (Number I32 (pos 1))) End)) (Call (codes "in") (More (Name (codes "x")) End))

-- the value is stored for the columns of the span
abbrev pub row_group : Term → Span1 → Group
row_group e x = record {
  function = codes "out";
  region = constants (pos 0) (pos 3) ∷ [];
  grid = 1 ∷ [];
  body = Seq (block (
      Alloc 0 (codes "out") (From (number (pos 0)) 4 ∷ [])
      ∷ loop 1 x (Store 0 0 (is (codes "x") (symbol 1) ∷ []) e ∷ [])
      ∷ Publish 0 ∷ []));
}

abbrev pub row_piece : Term → Span1 → Option (List Value)
row_piece e x = piece (box2_plan 4) box2_certificate box2_samples (row_group e x) (0 ∷ [])

abbrev pub FaultsAre : Type 0
FaultsAre =
    (row_piece (Call (codes "in") (More (Name (codes "x")) End)) (constants (pos 0) (pos 3)) ≡ Some (bytes (10 ∷ 20 ∷ 30 ∷ 41 ∷ [])))
    × (row_piece arm_value (constants (pos 0) (pos 3)) ≡ None)
    × (row_piece (Call (codes "in") (More (Name (codes "x")) End)) (constants (pos 0) (pos 2)) ≡ None)
    × (row_piece (Call (codes "f") (More (Name (codes "x")) End)) (constants (pos 0) (pos 3)) ≡ None)
