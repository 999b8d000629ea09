-- A running sum over four points, with its update over some of them.
use Rattle.std.specs.Prelude.{ℕ, List, [], ◌∷◌, ℤ, pos, codes}
use Rattle.numeric.specs.declared.ty.Ty.TheVariants.{U8, I32}
use Rattle.numeric.specs.declared.op.Op.TheVariants.{Add, Sub}
use Rattle.tree.specs.Term.{Number, Name, Call, Binary, Clamp, End, More}
use Rattle.lin.specs.Forms.{number}
use Rattle.plan.specs.declared.stmt.Places.TheVariants.{From}
use Rattle.plan.specs.Plan.{Statement, Seq, Alloc, Store, Publish, block, Group, Plan}
use Rattle.plan.specs.Semantics.Worked.{constants, symbol, is, finds, loop, load, scan_certificate}
use Rattle.soundness.specs.Worked.{scan_algorithm, IsPieceSound}

-- the update over the points from the first number to the last
abbrev pub sums_update : ℤ → ℤ → Statement
sums_update first last = loop 2 (constants first last) (Store 0 1 (finds (codes "x") (Name (codes "r")) ∷ is (codes "r") (symbol 2) ∷ [])
    (Binary Add (load 0 (Name (codes "r") ∷ [])) (load 0 (Binary Sub (Name (codes "r")) (Number I32 (pos 1)) ∷ []))) ∷ [])

abbrev pub sums_group : ℤ → ℤ → Group
sums_group first last = record {
  function = codes "s";
  region = constants (pos 0) (pos 3) ∷ [];
  grid = 1 ∷ [];
  body = Seq (block (
      Alloc 0 (codes "s") (From (number (pos 0)) 4 ∷ [])
      ∷ loop 1 (constants (pos 0) (pos 3)) (Store 0 0 (is (codes "x") (symbol 1) ∷ [])
      (Call (codes "in") (More (Clamp (Name (codes "x")) (Number I32 (pos 0)) (Number I32 (pos 3))) End)) ∷ [])
      ∷ sums_update first last
      ∷ Publish 1 ∷ []));
}

abbrev pub sums_plan : ℤ → ℤ → Plan
sums_plan first last = record {
  name = codes "scan";
  input = record { name = codes "in"; ty = U8; extents = 4 ∷ [] };
  output = record { name = codes "s"; ty = U8; extents = 4 ∷ [] };
  groups = sums_group first last ∷ [];
}

-- the one piece is sound, of the algorithm whose update is over the points 1 to 3
abbrev pub AreSummed : List ℕ → (first last : ℤ) → Type 0
AreSummed samples first last = IsPieceSound scan_algorithm samples (sums_plan first last) scan_certificate 0 (sums_group first last) (0 ∷ [])

abbrev pub AllPointsAreEnough : Type 0
AllPointsAreEnough = (samples : List ℕ) → AreSummed samples (pos 1) (pos 3)

abbrev pub FirstPointIsNeeded : Type 0
FirstPointIsNeeded = (samples : List ℕ) → AreSummed samples (pos 2) (pos 3) → ⊥

abbrev pub LastPointIsNeeded : Type 0
LastPointIsNeeded = (samples : List ℕ) → AreSummed samples (pos 1) (pos 2) → ⊥
