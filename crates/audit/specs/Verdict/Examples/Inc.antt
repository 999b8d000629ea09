-- One more than each pixel, in pieces of three and seven rows: accepted by the checker's own rules, and what is wrong where the plan
-- is altered.
use Rattle.std.specs.Prelude.{ℕ, [], ◌∷◌, pos, codes}
use Rattle.numeric.specs.declared.ty.Ty.TheVariants.{U8}
use Rattle.numeric.specs.declared.op.Op.TheVariants.{Add}
use Rattle.tree.specs.Term.{Term, Number, Name, Call, Binary, End, More}
use Rattle.lin.specs.Forms.{Form, number}
use Rattle.meaning.specs.Algorithm.{Algorithm}
use Rattle.plan.specs.Plan.{Alloc, Store, Publish, Seq, block, Group, Plan}
use Rattle.plan.specs.declared.stmt.Places.TheVariants.{From}
use Rattle.plan.specs.Certificate.Certificate.{Certificate}
use Rattle.plan.specs.Semantics.Worked.{plus, symbol, between, constants, is, loop, inc_plan, inc_certificate}
use Rattle.audit.specs.Verdict.Accepted.{IsAccepted}
use Rattle.audit.specs.Verdict.Faults.{IsFault}

-- so much more than the pixel
abbrev pub pixel_and : ℕ → Term
pixel_and n = Binary Add (Call (codes "in") (More (Name (codes "x")) (More (Name (codes "y")) End))) (Number U8 (pos n))

abbrev pub inc : Algorithm
inc = record {
  name = codes "inc";
  input = codes "in";
  input_ty = U8;
  input_extents = 2 ∷ 10 ∷ [];
  functions = record { name = codes "out"; ty = U8; variables = codes "x" ∷ codes "y" ∷ []; value = pixel_and 1; changes = [] } ∷ [];
  output = codes "out";
  output_extents = 2 ∷ 10 ∷ [];
}

-- ---- altered

-- piece s0 has the rows from the first form to the second: its loop, its places, its claim and what it owns; and it stores so much
-- more than the pixel
abbrev pub rows_group : Form → Form → ℕ → Group
rows_group first last n = record {
  function = codes "out";
  region = constants (pos 0) (pos 1) ∷ constants (pos 0) (pos 9) ∷ [];
  grid = 2 ∷ [];
  body = Seq (block (
      Alloc 0 (codes "out") (From (number (pos 0)) 2 ∷ From first 7 ∷ [])
      ∷ loop 1 (between first last) (loop 2 (constants (pos 0) (pos 1)) (Store 0 0 (is (codes "x") (symbol 2) ∷ is (codes "y") (symbol 1) ∷ []) (pixel_and n) ∷ []) ∷ [])
      ∷ Publish 0 ∷ []));
}

abbrev pub rows_plan : Form → Form → ℕ → Plan
rows_plan first last n = record inc_plan { groups = rows_group first last n ∷ [] }

-- the own line is 13
abbrev pub rows_certificate : Form → Form → Certificate
rows_certificate first last = record {
  own = record { group = 0; region = constants (pos 0) (pos 1) ∷ between first last ∷ [] } ∷ [];
  needs = [];
  claims = record { line = 10; buffer = 0; function = codes "out"; definition = 0; region = constants (pos 0) (pos 1) ∷ between first last ∷ [] } ∷ [];
  windows = [];
}

-- rows 0 to 4 and 4 to 9: both pieces have row 4
abbrev pub twice_plan : Plan
twice_plan = rows_plan (plus (pos 0) (pos 4) 0) (plus (pos 4) (pos 5) 0) 1

abbrev pub twice_certificate : Certificate
twice_certificate = rows_certificate (plus (pos 0) (pos 4) 0) (plus (pos 4) (pos 5) 0)

-- rows 0 to 3 and 5 to 9: no piece has row 4
abbrev pub gap_plan : Plan
gap_plan = rows_plan (plus (pos 0) (pos 5) 0) (plus (pos 3) (pos 6) 0) 1

abbrev pub gap_certificate : Certificate
gap_certificate = rows_certificate (plus (pos 0) (pos 5) 0) (plus (pos 3) (pos 6) 0)

-- two more than each pixel
abbrev pub other_plan : Plan
other_plan = rows_plan (plus (pos 0) (pos 3) 0) (plus (pos 2) (pos 7) 0) 2

-- what the pieces own alone is altered, to rows 0 to 4 and 4 to 9
abbrev pub more_owned : Certificate
more_owned = record inc_certificate { own = record { group = 0; region = constants (pos 0) (pos 1) ∷ between (plus (pos 0) (pos 4) 0) (plus (pos 4) (pos 5) 0) ∷ [] } ∷ [] }

pub record IncIsAccepted : Type 0 where
  pub accepted : IsAccepted inc inc_plan inc_certificate
  -- a row owned twice, and a row without an owner, at the own line
  pub twice : IsFault inc twice_plan twice_certificate 9 13
  pub gap : IsFault inc gap_plan gap_certificate 10 13
  -- another definition at its store; what is published is not what is claimed
  pub other : IsFault inc other_plan inc_certificate 12 8
  pub unclaimed : IsFault inc inc_plan more_owned 5 11
