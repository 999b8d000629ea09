-- The mean of three rows of f, whose buffer slides along the loop over the rows: it holds as many rows as are read, and each turn but the
-- first of a piece adds one. Accepted by the checker's own rules, and what is wrong where the plan is altered.
use Rattle.std.specs.Prelude.{ℕ, [], ◌∷◌, List, ℤ, pos, negsuc, codes}
use Rattle.numeric.specs.declared.ty.Ty.TheVariants.{U8, U16, I32}
use Rattle.numeric.specs.declared.op.Op.TheVariants.{Add, Sub, Div}
use Rattle.tree.specs.Term.{Term, Number, Name, Call, Binary, Cast, End, More}
use Rattle.lin.specs.Forms.{Form, number}
use Rattle.lin.specs.declared.span.Span1.{Span1}
use Rattle.meaning.specs.Algorithm.{Algorithm}
use Rattle.plan.specs.declared.certificate.cert.Window.{Window}
use Rattle.plan.specs.declared.stmt.Pick.TheVariants.{Min}
use Rattle.plan.specs.declared.stmt.Places.TheVariants.{From, Folded}
use Rattle.plan.specs.Plan.{Statement, Let, First, Alloc, Store, Publish, Seq, block, Group, Plan}
use Rattle.plan.specs.Certificate.Certificate.{Certificate}
use Rattle.plan.specs.Semantics.Worked.{plus, symbol, constants, is, loop, clamped_row, slide_value, slide_own}
use Rattle.audit.specs.Verdict.Accepted.{IsAccepted}
use Rattle.audit.specs.Verdict.Faults.{IsFault}

-- ---- f, one more than each pixel, and out, the mean of three rows of it, where the edges are repeated

abbrev pub x : Term
x = Name (codes "x")

abbrev pub y : Term
y = Name (codes "y")

abbrev pub of_input : Term
of_input = Binary Add (Call (codes "in") (More x (More y End))) (Number U8 (pos 1))

abbrev pub f_in_row : Term → Term
f_in_row row = Cast U16 (Call (codes "f") (More x (More row End)))

abbrev pub of_rows : Term
of_rows = Cast U8 (Binary Div (Binary Add (Binary Add
    (f_in_row (clamped_row (Binary Sub y (Number I32 (pos 1)))))
    (f_in_row y))
    (f_in_row (clamped_row (Binary Add y (Number I32 (pos 1))))))
    (Number U16 (pos 3)))

abbrev pub slide : Algorithm
slide = record {
  name = codes "slide";
  input = codes "in";
  input_ty = U8;
  input_extents = 4 ∷ 8 ∷ [];
  functions =
      record { name = codes "f"; ty = U8; variables = codes "x" ∷ codes "y" ∷ []; value = of_input; changes = [] }
      ∷ record { name = codes "out"; ty = U8; variables = codes "x" ∷ codes "y" ∷ []; value = of_rows; changes = [] } ∷ [];
  output = codes "out";
  output_extents = 4 ∷ 8 ∷ [];
}

-- ---- two pieces of four rows

-- where the row lies that comes so many after the turn's own
abbrev pub row : ℤ → Form
row k = record { constant = k; terms = record { symbol = 0; factor = pos 4 } ∷ record { symbol = 1; factor = pos 1 } ∷ [] }

abbrev pub all_columns : Span1
all_columns = constants (pos 0) (pos 3)

-- the rows that a turn reads, and those that a later turn adds
abbrev pub read_rows : Span1
read_rows = record { lower = row (negsuc 0) ∷ number (negsuc 0) ∷ number (pos 0) ∷ []; upper = row (pos 1) ∷ number (pos 7) ∷ [] }

abbrev pub new_rows : Span1
new_rows = record { lower = symbol 2 ∷ []; upper = row (pos 1) ∷ number (pos 7) ∷ [] }

abbrev pub rows_of_f : ℕ → ℕ → Span1 → Statement
rows_of_f i j rows = Seq (block (loop i rows (loop j all_columns (Store 1 0 (is (codes "x") (symbol j) ∷ is (codes "y") (symbol i) ∷ []) of_input ∷ []) ∷ []) ∷ []))

-- the buffer of f has so many rows; the rows that a later turn adds begin so many after the turn's own
abbrev pub group_of : ℕ → ℤ → Group
group_of fold from = record {
  function = codes "out";
  region = all_columns ∷ constants (pos 0) (pos 7) ∷ [];
  grid = 2 ∷ [];
  body = Seq (block (
      Alloc 0 (codes "out") (From (number (pos 0)) 4 ∷ From (plus (pos 0) (pos 4) 0) 4 ∷ [])
      ∷ Alloc 1 (codes "f") (From (number (pos 0)) 4 ∷ Folded fold ∷ [])
      ∷ loop 1 all_columns (
      Let 2 Min (row from ∷ number (pos 8) ∷ [])
      ∷ First 1 (rows_of_f 3 4 read_rows) (rows_of_f 5 6 new_rows)
      ∷ loop 7 all_columns (Store 0 0 (is (codes "x") (symbol 7) ∷ is (codes "y") (row (pos 0)) ∷ []) slide_value ∷ []) ∷ [])
      ∷ Publish 1 ∷ []));
}

abbrev pub plan_of : ℕ → ℤ → Plan
plan_of fold from = record {
  name = codes "slide";
  input = record { name = codes "in"; ty = U8; extents = 4 ∷ 8 ∷ [] };
  output = record { name = codes "out"; ty = U8; extents = 4 ∷ 8 ∷ [] };
  groups = group_of fold from ∷ [];
}

-- the claim of f is line 29
abbrev pub certificate_with : List Window → Certificate
certificate_with windows = record {
  own = record { group = 0; region = slide_own } ∷ [];
  needs = [];
  claims =
      record { line = 21; buffer = 1; function = codes "f"; definition = 0; region = all_columns ∷ read_rows ∷ [] }
      ∷ record { line = 25; buffer = 0; function = codes "out"; definition = 0; region = slide_own } ∷ [];
  windows = windows;
}

-- along the loop over rows; it is line 31
abbrev pub window : ℕ → Window
window fold = record { claim = 0; symbol = 1; dimension = 1; fold = fold; span = read_rows }

abbrev pub slides : ℕ → Certificate
slides fold = certificate_with (window fold ∷ [])

pub record SlideIsAccepted : Type 0 where
  pub accepted : IsAccepted slide (plan_of 3 (pos 1)) (slides 3)
  pub larger : IsAccepted slide (plan_of 7 (pos 1)) (slides 7)
  -- a row that is read lies where another one does
  pub too_small : IsFault slide (plan_of 2 (pos 1)) (slides 2) 8 31
  -- the window's fold is not the buffer's
  pub other_fold : IsFault slide (plan_of 3 (pos 1)) (slides 7) 8 31
  -- a row is left out
  pub too_late : IsFault slide (plan_of 3 (pos 2)) (slides 3) 6 29
  -- without the window no turn but the first makes the claim
  pub alone : IsFault slide (plan_of 3 (pos 1)) (certificate_with []) 6 29
  -- a second window of the claim is not used
  pub twice : IsFault slide (plan_of 3 (pos 1)) (certificate_with (window 3 ∷ window 3 ∷ [])) 8 32
