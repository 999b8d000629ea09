-- One more than each of ten pixels, in blocks of four: by pieces of which the last is moved back, and by one piece whose last block is
-- cut off. Both are accepted by the checker's own rules, and what is wrong where they are altered.
use Rattle.std.specs.Prelude.{ℕ, [], ◌∷◌, ℤ, pos, codes}
use Rattle.numeric.specs.declared.ty.Ty.TheVariants.{U8}
use Rattle.numeric.specs.declared.op.Op.TheVariants.{Add}
use Rattle.tree.specs.Term.{Term, Number, Name, Call, Binary, End, More}
use Rattle.lin.specs.Forms.{Form, number}
use Rattle.lin.specs.declared.span.Span1.{Span1}
use Rattle.meaning.specs.Algorithm.{Algorithm}
use Rattle.plan.specs.declared.stmt.Kind.TheVariants.{Unroll}
use Rattle.plan.specs.declared.stmt.Pick.{Pick}
use Rattle.plan.specs.declared.stmt.Pick.TheVariants.{Min, Max}
use Rattle.plan.specs.declared.stmt.Places.TheVariants.{From}
use Rattle.plan.specs.Plan.{Statement, For, Let, Guard, Alloc, Store, Publish, Seq, block, Group, Plan}
use Rattle.plan.specs.Certificate.Certificate.{Certificate}
use Rattle.plan.specs.Semantics.Worked.{plus, symbol, constants, is, loop}
use Rattle.audit.specs.Verdict.Accepted.{IsAccepted}
use Rattle.audit.specs.Verdict.Faults.{IsFault}

abbrev pub one_more : Term
one_more = Binary Add (Call (codes "in") (More (Name (codes "x")) End)) (Number U8 (pos 1))

abbrev pub ten : Algorithm
ten = record {
  name = codes "ten";
  input = codes "in";
  input_ty = U8;
  input_extents = 10 ∷ [];
  functions = record { name = codes "out"; ty = U8; variables = codes "x" ∷ []; value = one_more; changes = [] } ∷ [];
  output = codes "out";
  output_extents = 10 ∷ [];
}

abbrev pub ten_plan : Group → Plan
ten_plan g = record {
  name = codes "ten";
  input = record { name = codes "in"; ty = U8; extents = 10 ∷ [] };
  output = record { name = codes "out"; ty = U8; extents = 10 ∷ [] };
  groups = g ∷ [];
}

-- the place of x is this form
abbrev pub store_at : Form → Statement
store_at f = Store 0 0 (is (codes "x") f ∷ []) one_more

-- the sum of so many times each symbol
abbrev pub sum_of : ℤ → ℕ → ℤ → ℕ → Form
sum_of k i n j = record { constant = pos 0; terms = record { symbol = i; factor = k } ∷ record { symbol = j; factor = n } ∷ [] }

-- ---- three pieces, of which the last begins where a block of four still has its place

-- the block begins at the smallest or largest of where its piece would have it and `latest`, and its loop is unrolled from 0 to `last`
abbrev pub moved_group : Pick → (latest last : ℤ) → Group
moved_group pick latest last = record {
  function = codes "out";
  region = constants (pos 0) (pos 9) ∷ [];
  grid = 3 ∷ [];
  body = Seq (block (
      Let 1 pick (plus (pos 0) (pos 4) 0 ∷ number latest ∷ [])
      ∷ Alloc 0 (codes "out") (From (symbol 1) 4 ∷ [])
      ∷ For 2 (constants (pos 0) last) Unroll (Seq (block (store_at (sum_of (pos 1) 1 (pos 1) 2) ∷ [])))
      ∷ Publish 0 ∷ []));
}

-- the four points of the piece, up to 9
abbrev pub moved_region : Span1
moved_region = record { lower = plus (pos 0) (pos 4) 0 ∷ []; upper = plus (pos 3) (pos 4) 0 ∷ number (pos 9) ∷ [] }

-- the claim is line 13
abbrev pub moved_certificate : Certificate
moved_certificate = record {
  own = record { group = 0; region = moved_region ∷ [] } ∷ [];
  needs = [];
  claims = record { line = 9; buffer = 0; function = codes "out"; definition = 0; region = moved_region ∷ [] } ∷ [];
  windows = [];
}

-- ---- one piece, the loop over the blocks inside: a guard leaves out what is past the end

-- what is at most this number is stored, at the smaller of its place and 9
abbrev pub guarded_group : ℤ → Group
guarded_group last = record {
  function = codes "out";
  region = constants (pos 0) (pos 9) ∷ [];
  grid = 1 ∷ [];
  body = Seq (block (
      Alloc 0 (codes "out") (From (number (pos 0)) 10 ∷ [])
      ∷ loop 1 (constants (pos 0) (pos 3)) (loop 2 (constants (pos 0) (pos 2)) (
      Guard (sum_of (pos 1) 1 (pos 4) 2) (number last) (Seq (block (Let 3 Min (sum_of (pos 1) 1 (pos 4) 2 ∷ number (pos 9) ∷ []) ∷ store_at (symbol 3) ∷ []))) ∷ []) ∷ [])
      ∷ Publish 0 ∷ []));
}

-- the claim is line 17
abbrev pub guarded_certificate : Certificate
guarded_certificate = record {
  own = record { group = 0; region = constants (pos 0) (pos 9) ∷ [] } ∷ [];
  needs = [];
  claims = record { line = 13; buffer = 0; function = codes "out"; definition = 0; region = constants (pos 0) (pos 9) ∷ [] } ∷ [];
  windows = [];
}

pub record BlocksAreAccepted : Type 0 where
  pub moved : IsAccepted ten (ten_plan (moved_group Min (pos 6) (pos 3))) moved_certificate
  -- moved back too far it leaves the last point out; the largest in place of the smallest leads past the end of the input
  pub too_far : IsFault ten (ten_plan (moved_group Min (pos 5) (pos 3))) moved_certificate 6 13
  pub largest : IsFault ten (ten_plan (moved_group Max (pos 6) (pos 3))) moved_certificate 4 8
  -- at most 64 turns are unrolled
  pub too_many : IsFault ten (ten_plan (moved_group Min (pos 6) (pos 64))) moved_certificate 14 7
  pub guarded : IsAccepted ten (ten_plan (guarded_group (pos 9))) guarded_certificate
  -- the last point is left out
  pub too_small : IsFault ten (ten_plan (guarded_group (pos 8))) guarded_certificate 6 17
