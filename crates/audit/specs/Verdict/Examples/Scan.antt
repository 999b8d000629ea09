-- A running sum, whose update has a nest and a claim of its own: accepted by the checker's own rules, and what is wrong where the
-- plan is altered.
use Rattle.std.specs.Prelude.{ℕ, [], ◌∷◌, ℤ, pos, codes}
use Rattle.numeric.specs.declared.ty.Ty.TheVariants.{I32}
use Rattle.numeric.specs.declared.op.Op.TheVariants.{Add, Sub}
use Rattle.tree.specs.Term.{Term, Number, Name, Call, Binary, Clamp, End, More}
use Rattle.lin.specs.Forms.{number}
use Rattle.lin.specs.declared.span.Span1.{Span1}
use Rattle.plan.specs.Plan.{Alloc, Store, Publish, Seq, block, Group, Plan}
use Rattle.plan.specs.declared.stmt.Places.TheVariants.{From}
use Rattle.plan.specs.Certificate.Certificate.{Certificate}
use Rattle.plan.specs.Semantics.Worked.{symbol, constants, is, finds, loop, load, scan_plan, scan_certificate}
use Rattle.soundness.specs.Worked.{scan_algorithm}
use Rattle.audit.specs.Verdict.Accepted.{IsAccepted}
use Rattle.audit.specs.Verdict.Faults.{IsFault}

abbrev pub r : Term
r = Name (codes "r")

abbrev pub before_r : Term
before_r = Binary Sub r (Number I32 (pos 1))

-- ---- altered

-- the update is over the points of this span, and stores this value, at line 10
abbrev pub sums_group : Span1 → Term → Group
sums_group points value = record {
  function = codes "s";
  region = constants (pos 0) (pos 3) ∷ [];
  grid = 1 ∷ [];
  body = Seq (block (
      Alloc 0 (codes "s") (From (number (pos 0)) 4 ∷ [])
      ∷ loop 1 (constants (pos 0) (pos 3)) (Store 0 0 (is (codes "x") (symbol 1) ∷ [])
      (Call (codes "in") (More (Clamp (Name (codes "x")) (Number I32 (pos 0)) (Number I32 (pos 3))) End)) ∷ [])
      ∷ loop 2 points (Store 0 1 (finds (codes "x") r ∷ is (codes "r") (symbol 2) ∷ []) value ∷ [])
      ∷ Publish 1 ∷ []));
}

abbrev pub sums_plan : Span1 → Term → Plan
sums_plan points value = record scan_plan { groups = sums_group points value ∷ [] }

-- the sum of the loads at these places, by the claim of this number: that before the update is 0, that behind it 1
abbrev pub sum_by : ℕ → Term → Term → Term
sum_by claim a b = Binary Add (load claim (a ∷ [])) (load claim (b ∷ []))

-- the update claims the points from 0 to this number, at line 16
abbrev pub claimed_to : ℤ → Certificate
claimed_to last = record scan_certificate {
  claims =
      record { line = 8; buffer = 0; function = codes "s"; definition = 0; region = constants (pos 0) (pos 3) ∷ [] }
      ∷ record { line = 11; buffer = 0; function = codes "s"; definition = 1; region = constants (pos 0) last ∷ [] } ∷ [];
}

pub record ScanIsAccepted : Type 0 where
  pub accepted : IsAccepted scan_algorithm scan_plan scan_certificate
  -- a load by the claim that the update has still to make, a claim of more than is stored, and a step that is left out
  pub early : IsFault scan_algorithm (sums_plan (constants (pos 1) (pos 3)) (sum_by 1 r before_r)) scan_certificate 5 10
  pub wide : IsFault scan_algorithm scan_plan (claimed_to (pos 4)) 6 16
  pub left_out : IsFault scan_algorithm (sums_plan (constants (pos 2) (pos 3)) (sum_by 0 r before_r)) scan_certificate 7 10
  -- another definition at its store
  pub other : IsFault scan_algorithm (sums_plan (constants (pos 1) (pos 3)) (sum_by 0 r r)) scan_certificate 12 10
