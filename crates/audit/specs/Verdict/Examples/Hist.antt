-- A histogram of a picture of three by two pixels, whose update finds its place by a sample: accepted by the checker's own rules, and
-- what is wrong where the plan is altered.
use Rattle.std.specs.Prelude.{ℕ, [], ◌∷◌, pos, codes}
use Rattle.numeric.specs.declared.ty.Ty.TheVariants.{U16}
use Rattle.numeric.specs.declared.op.Op.TheVariants.{Add}
use Rattle.tree.specs.Term.{Number, Binary}
use Rattle.lin.specs.Forms.{number}
use Rattle.meaning.specs.Algorithm.{Algorithm}
use Rattle.plan.specs.Plan.{Statement, Alloc, Store, Publish, Seq, block, Group, Plan}
use Rattle.plan.specs.declared.stmt.Places.TheVariants.{From}
use Rattle.plan.specs.Certificate.Certificate.{Certificate}
use Rattle.plan.specs.Semantics.Worked.{symbol, constants, is, finds, loop, load}
use Rattle.soundness.specs.Worked.{sampled, hist_algorithm, hist_plan, hist_certificate}
use Rattle.audit.specs.Verdict.Accepted.{IsAccepted}
use Rattle.audit.specs.Verdict.Faults.{IsFault}

-- of 256 places
abbrev pub hist : Algorithm
hist = hist_algorithm 255 1

abbrev pub whole_plan : Plan
whole_plan = hist_plan 255 1

abbrev pub whole_certificate : Certificate
whole_certificate = hist_certificate 255 1

-- ---- altered

-- so much more than the place that the sample finds, with these symbols for the column and the row
abbrev pub step : ℕ → ℕ → ℕ → Statement
step column row n = Store 0 1 (finds (codes "i") sampled ∷ is (codes "rx") (symbol column) ∷ is (codes "ry") (symbol row) ∷ []) (Binary Add (load 0 (sampled ∷ [])) (Number U16 (pos n)))

-- row by row, and column by column; the store is line 11
abbrev pub by_rows : ℕ → Statement
by_rows n = loop 2 (constants (pos 0) (pos 1)) (loop 3 (constants (pos 0) (pos 2)) (step 3 2 n ∷ []) ∷ [])

abbrev pub by_columns : Statement
by_columns = loop 2 (constants (pos 0) (pos 2)) (loop 3 (constants (pos 0) (pos 1)) (step 2 3 1 ∷ []) ∷ [])

-- the buffer has so many places, and the update is this statement
abbrev pub counts_group : ℕ → Statement → Group
counts_group places update = record {
  function = codes "h";
  region = constants (pos 0) (pos 255) ∷ [];
  grid = 1 ∷ [];
  body = Seq (block (
      Alloc 0 (codes "h") (From (number (pos 0)) places ∷ [])
      ∷ loop 1 (constants (pos 0) (pos 255)) (Store 0 0 (is (codes "i") (symbol 1) ∷ []) (Number U16 (pos 0)) ∷ [])
      ∷ update
      ∷ Publish 1 ∷ []));
}

abbrev pub counts_plan : ℕ → Statement → Plan
counts_plan places update = record whole_plan { groups = counts_group places update ∷ [] }

pub record HistIsAccepted : Type 0 where
  pub accepted : IsAccepted hist whole_plan whole_certificate
  -- a place too few, at the store of the first definition
  pub narrow : IsFault hist (counts_plan 255 (by_rows 1)) whole_certificate 4 7
  -- steps column by column, and another definition
  pub turned : IsFault hist (counts_plan 256 by_columns) whole_certificate 7 11
  pub other : IsFault hist (counts_plan 256 (by_rows 2)) whole_certificate 12 11
