-- Each point reads a function at its own place and one to the left: four pieces of each, of which those of the second wait for the
-- pieces that they read. Accepted by the checker's own rules, and what is wrong where the plan is altered.
use Rattle.std.specs.Prelude.{[], ◌∷◌, pos, negsuc, codes}
use Rattle.numeric.specs.declared.ty.Ty.TheVariants.{U8, I32}
use Rattle.numeric.specs.declared.op.Op.TheVariants.{Add, Sub}
use Rattle.tree.specs.Term.{Term, Number, Name, Call, Binary, Clamp, End, More}
use Rattle.lin.specs.Forms.{number}
use Rattle.lin.specs.declared.span.Span1.{Span1}
use Rattle.meaning.specs.Algorithm.{Algorithm}
use Rattle.plan.specs.Plan.{Alloc, Fetch, Store, Publish, Seq, block, Group, Plan}
use Rattle.plan.specs.declared.stmt.Places.TheVariants.{From}
use Rattle.plan.specs.Certificate.Certificate.{Certificate}
use Rattle.plan.specs.Semantics.Worked.{plus, symbol, between, constants, is, loop, load}
use Rattle.audit.specs.Verdict.Accepted.{IsAccepted}
use Rattle.audit.specs.Verdict.Faults.{IsFault}

-- ---- f, one more than each pixel, and out, the sum of f and of f one to the left, where the edge is repeated

abbrev pub x : Term
x = Name (codes "x")

abbrev pub to_the_left : Term
to_the_left = Clamp (Binary Sub x (Number I32 (pos 1))) (Number I32 (pos 0)) (Number I32 (pos 3))

abbrev pub of_input : Term
of_input = Binary Add (Call (codes "in") (More x End)) (Number U8 (pos 1))

abbrev pub near : Algorithm
near = record {
  name = codes "near";
  input = codes "in";
  input_ty = U8;
  input_extents = 4 ∷ [];
  functions =
      record { name = codes "f"; ty = U8; variables = codes "x" ∷ []; value = of_input; changes = [] }
      ∷ record {
        name = codes "out";
        ty = U8;
        variables = codes "x" ∷ [];
        value = Binary Add (Call (codes "f") (More to_the_left End)) (Call (codes "f") (More x End));
        changes = [];
      } ∷ [];
  output = codes "out";
  output_extents = 4 ∷ [];
}

-- ---- four pieces of each function, of a cell each

-- the grid's symbol alone, and with the one before, from 0 on
abbrev pub here : Span1
here = between (symbol 0) (symbol 0)

abbrev pub with_left : Span1
with_left = record { lower = plus (negsuc 0) (pos 1) 0 ∷ number (pos 0) ∷ []; upper = symbol 0 ∷ [] }

abbrev pub f_group : Group
f_group = record {
  function = codes "f";
  region = constants (pos 0) (pos 3) ∷ [];
  grid = 4 ∷ [];
  body = Seq (block (
      Alloc 0 (codes "f") (From (symbol 0) 1 ∷ [])
      ∷ loop 1 here (Store 0 0 (is (codes "x") (symbol 1) ∷ []) of_input ∷ [])
      ∷ Publish 0 ∷ []));
}

-- out from claim 1, of what is fetched, at two places
abbrev pub sum_of_two : Term → Term → Term
sum_of_two a b = Binary Add (load 1 (a ∷ [])) (load 1 (b ∷ []))

abbrev pub out_group : Term → Group
out_group value = record {
  function = codes "out";
  region = constants (pos 0) (pos 3) ∷ [];
  grid = 4 ∷ [];
  body = Seq (block (
      Alloc 0 (codes "f") (From (plus (negsuc 0) (pos 1) 0) 2 ∷ [])
      ∷ Alloc 1 (codes "out") (From (symbol 0) 1 ∷ [])
      ∷ Fetch 0 0 (with_left ∷ [])
      ∷ loop 1 here (Store 1 0 (is (codes "x") (symbol 1) ∷ []) value ∷ [])
      ∷ Publish 2 ∷ []));
}

abbrev pub with_value : Term → Plan
with_value value = record {
  name = codes "near";
  input = record { name = codes "in"; ty = U8; extents = 4 ∷ [] };
  output = record { name = codes "out"; ty = U8; extents = 4 ∷ [] };
  groups = f_group ∷ out_group value ∷ [];
}

abbrev pub near_plan : Plan
near_plan = with_value (sum_of_two to_the_left x)

-- what the pieces of out need, at line 21, and what claim 1 says of what they fetch
abbrev pub with_regions : Span1 → Span1 → Certificate
with_regions needed claimed = record {
  own = record { group = 0; region = here ∷ [] } ∷ record { group = 1; region = here ∷ [] } ∷ [];
  needs = record { group = 1; needed = 0; region = needed ∷ [] } ∷ [];
  claims =
      record { line = 8; buffer = 0; function = codes "f"; definition = 0; region = here ∷ [] }
      ∷ record { line = 13; buffer = 0; function = codes "f"; definition = 0; region = claimed ∷ [] }
      ∷ record { line = 16; buffer = 1; function = codes "out"; definition = 0; region = here ∷ [] } ∷ [];
  windows = [];
}

abbrev pub near_certificate : Certificate
near_certificate = with_regions with_left with_left

pub record NearIsAccepted : Type 0 where
  pub accepted : IsAccepted near near_plan near_certificate
  -- the piece to the left is not needed, and its cell is fetched
  pub unserved : IsFault near near_plan (with_regions here with_left) 11 21
  -- another definition at its store, and a load to the left of what is claimed
  pub other : IsFault near (with_value (sum_of_two x x)) near_certificate 12 15
  pub outside : IsFault near near_plan (with_regions with_left here) 5 15
