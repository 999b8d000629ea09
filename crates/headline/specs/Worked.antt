-- The work of small plans, computed.
use Rattle.std.specs.Prelude.{◌≡◌, ℕ, List, [], ◌∷◌, map, Some, None, pos, codes}
use Rattle.numeric.specs.declared.ty.Ty.TheVariants.{U8, I32}
use Rattle.numeric.specs.declared.op.Op.TheVariants.{Add}
use Rattle.tree.specs.Term.{Term, Number, Name, Call, Binary, Clamp, End, More}
use Rattle.meaning.specs.Algorithm.{Function, Algorithm}
use Rattle.lin.specs.Forms.{number}
use Rattle.lin.specs.declared.span.Span1.{Span1}
use Rattle.plan.specs.declared.stmt.Pick.TheVariants.{Min}
use Rattle.plan.specs.declared.stmt.Places.TheVariants.{From}
use Rattle.plan.specs.Plan.{Seq, Let, Alloc, Fetch, Store, Publish, block, Group, Plan}
use Rattle.plan.specs.Certificate.Certificate.{Certificate}
use Rattle.plan.specs.Semantics.Worked.{inc_plan, inc_certificate, twenty, plus, symbol, between, constants, loop, load}
use Rattle.plan.specs.Semantics.Worked as actions
use Rattle.orders.specs.Work.{Work}
use Rattle.plan.specs.Certificate.Cells.{cell}
use Rattle.headline.specs.Numbers.{cell_number}
use Rattle.headline.specs.Work.{target, work_of}

-- ---- one more than each pixel, in pieces of three and seven rows

abbrev inc : Algorithm
inc = record {
  name = codes "inc";
  input = codes "in";
  input_ty = U8;
  input_extents = 2 ∷ 10 ∷ [];
  functions = record {
    name = codes "out";
    ty = U8;
    variables = codes "x" ∷ codes "y" ∷ [];
    value = Binary Add (Call (codes "in") (More (Name (codes "x")) (More (Name (codes "y")) End))) (Number U8 (pos 1));
    changes = [];
  } ∷ [];
  output = codes "out";
  output_extents = 2 ∷ 10 ∷ [];
}

abbrev inc_work : Work
inc_work = work_of inc inc_plan inc_certificate twenty

abbrev pub IncIsWork : Type 0
IncIsWork =
    (inc_work.pieces ≡ 2) × (inc_work.cells ≡ 20)
    × (inc_work.own 0 ≡ 0 ∷ 1 ∷ 2 ∷ 3 ∷ 4 ∷ 5 ∷ []) × (inc_work.own 1 ≡ 6 ∷ 7 ∷ 8 ∷ 9 ∷ 10 ∷ 11 ∷ 12 ∷ 13 ∷ 14 ∷ 15 ∷ 16 ∷ 17 ∷ 18 ∷ 19 ∷ [])
    × (inc_work.fetched 1 ≡ []) × (inc_work.needs 1 ≡ [])
    × (cell_number inc_plan (cell 0 (pos 1 ∷ pos 3 ∷ [])) ≡ 7) × (target inc inc_plan twenty 7 ≡ pos 8)
    × (inc_work.private_run 0 [] ≡ Some (map pos (1 ∷ 2 ∷ 3 ∷ 4 ∷ 5 ∷ 6 ∷ [])))

-- ---- two groups: f, one more than each pixel, and out, the sum of a pixel of f and the next

abbrev x : Term
x = Name (codes "x")

-- the place, moved to the nearest from 0 to 3
abbrev clamped : Term → Term
clamped e = Clamp e (Number I32 (pos 0)) (Number I32 (pos 3))

abbrev next : Term
next = clamped (Binary Add x (Number I32 (pos 1)))

abbrev one_more : Term
one_more = Binary Add (Call (codes "in") (More (clamped x) End)) (Number U8 (pos 1))

abbrev function : List ℕ → Term → Function
function name value = record { name = name; ty = U8; variables = codes "x" ∷ []; value = value; changes = [] }

abbrev sums : Algorithm
sums = record {
  name = codes "sums";
  input = codes "in";
  input_ty = U8;
  input_extents = 4 ∷ [];
  functions = function (codes "f") one_more ∷ function (codes "out") (Binary Add (Call (codes "f") (More x End)) (Call (codes "f") (More next End))) ∷ [];
  output = codes "out";
  output_extents = 4 ∷ [];
}

-- two coordinates a piece: from 2 * s0 to 2 * s0 + 1
abbrev pair : Span1
pair = between (plus (pos 0) (pos 2) 0) (plus (pos 1) (pos 2) 0)

abbrev f_group : Group
f_group = record {
  function = codes "f";
  region = constants (pos 0) (pos 3) ∷ [];
  grid = 2 ∷ [];
  body = Seq (block (
      Alloc 0 (codes "f") (From (plus (pos 0) (pos 2) 0) 2 ∷ [])
      ∷ loop 1 pair (Store 0 0 (actions.is (codes "x") (symbol 1) ∷ []) one_more ∷ [])
      ∷ Publish 0 ∷ []));
}

-- it fetches from 2 * s0 to the smaller of 3 and 2 * s0 + 2, which a `let` line names
abbrev sums_group : Group
sums_group = record {
  function = codes "out";
  region = constants (pos 0) (pos 3) ∷ [];
  grid = 2 ∷ [];
  body = Seq (block (
      Let 1 Min (number (pos 3) ∷ plus (pos 2) (pos 2) 0 ∷ [])
      ∷ Alloc 0 (codes "out") (From (plus (pos 0) (pos 2) 0) 2 ∷ [])
      ∷ Alloc 1 (codes "f") (From (plus (pos 0) (pos 2) 0) 3 ∷ [])
      ∷ Fetch 1 0 (between (plus (pos 0) (pos 2) 0) (symbol 1) ∷ [])
      ∷ loop 2 pair (Store 0 0 (actions.is (codes "x") (symbol 2) ∷ []) (Binary Add (load 1 (x ∷ [])) (load 1 (next ∷ []))) ∷ [])
      ∷ Publish 2 ∷ []));
}

abbrev sums_plan : Plan
sums_plan = record {
  name = codes "sums";
  input = record { name = codes "in"; ty = U8; extents = 4 ∷ [] };
  output = record { name = codes "out"; ty = U8; extents = 4 ∷ [] };
  groups = f_group ∷ sums_group ∷ [];
}

-- piece s0 of the second group needs pieces s0 to 1 of the first, piece 1 by two lines
abbrev sums_certificate : Certificate
sums_certificate = record {
  own = record { group = 0; region = pair ∷ [] } ∷ record { group = 1; region = pair ∷ [] } ∷ [];
  needs = record { group = 1; needed = 0; region = constants (pos 1) (pos 1) ∷ [] } ∷ record { group = 1; needed = 0; region = between (symbol 0) (number (pos 1)) ∷ [] } ∷ [];
  claims =
      record { line = 8; buffer = 0; function = codes "f"; definition = 0; region = pair ∷ [] }
      ∷ record { line = 14; buffer = 1; function = codes "f"; definition = 0; region = between (plus (pos 0) (pos 2) 0) (symbol 1) ∷ [] }
      ∷ record { line = 17; buffer = 0; function = codes "out"; definition = 0; region = pair ∷ [] } ∷ [];
  windows = [];
}

abbrev sums_samples : List ℕ
sums_samples = 10 ∷ 20 ∷ 30 ∷ 255 ∷ []

abbrev sums_work : Work
sums_work = work_of sums sums_plan sums_certificate sums_samples

-- the fourth pixel of f is 255 + 1 in a u8: 0
abbrev pub SumsAreWork : Type 0
SumsAreWork =
    (sums_work.pieces ≡ 4) × (sums_work.cells ≡ 8)
    × (map sums_work.own (0 ∷ 1 ∷ 2 ∷ 3 ∷ 4 ∷ []) ≡ (0 ∷ 1 ∷ []) ∷ (2 ∷ 3 ∷ []) ∷ (4 ∷ 5 ∷ []) ∷ (6 ∷ 7 ∷ []) ∷ [] ∷ [])
    × (map sums_work.fetched (0 ∷ 1 ∷ 2 ∷ 3 ∷ []) ≡ [] ∷ [] ∷ (0 ∷ 1 ∷ 2 ∷ []) ∷ (2 ∷ 3 ∷ []) ∷ [])
    × (map sums_work.needs (0 ∷ 1 ∷ 2 ∷ 3 ∷ []) ≡ [] ∷ [] ∷ (0 ∷ 1 ∷ []) ∷ (1 ∷ []) ∷ [])
    × (map (target sums sums_plan sums_samples) (0 ∷ 1 ∷ 2 ∷ 3 ∷ 4 ∷ 5 ∷ 6 ∷ 7 ∷ 8 ∷ []) ≡ map pos (11 ∷ 21 ∷ 31 ∷ 0 ∷ 32 ∷ 52 ∷ 31 ∷ 0 ∷ 0 ∷ []))
    × (sums_work.private_run 1 [] ≡ Some (map pos (31 ∷ 0 ∷ [])))
    × (sums_work.private_run 2 (map pos (11 ∷ 21 ∷ 31 ∷ [])) ≡ Some (map pos (32 ∷ 52 ∷ [])))
    × (sums_work.private_run 2 (map pos (1 ∷ 2 ∷ 3 ∷ [])) ≡ Some (map pos (3 ∷ 5 ∷ [])))
    × (sums_work.private_run 3 (map pos (31 ∷ 0 ∷ [])) ≡ Some (map pos (31 ∷ 0 ∷ [])))
    × (sums_work.private_run 4 [] ≡ None)
