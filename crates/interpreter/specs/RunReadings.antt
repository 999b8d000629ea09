-- What is read at the turns of a run.
use Rattle.std.specs.Prelude.{◌≡◌, ◌≢◌, ℕ, List, Option, ℤ}
use Rattle.tree.specs.declared.value.Value.{Value}
use Rattle.plan.specs.Semantics.Memory.{Memory, read}
use Rattle.plan.specs.Semantics.Run.{look}
use Rattle.interpreter.specs.Pieces.{around, no_cells}
use Rattle.interpreter.specs.declared.run_reading.RunReading.{RunReading}
use Rattle.interpreter.specs.declared.run_reading.Source.{Source}
use Rattle.interpreter.specs.declared.run_reading.Source.TheVariants.{Input, Buffer}

-- what a source has at a point, where memory holds this
abbrev pub source_at : RunReading → Memory Value → Source → List ℤ → Option Value
source_at r m Input p = (around r.piece.now no_cells).sample p
source_at r m (Buffer c) p = read m c p

-- the source is what the name means, and not the buffer that is stored to
abbrev pub IsAside : RunReading → Source → Type 0
IsAside r Input = Unit {0}
IsAside r (Buffer c) = c ≢ r.buffer

pub record Means (r : RunReading) (name : List ℕ) (s : Source) : Type 0 where
  pub aside : IsAside r s
  pub look : (m : Memory Value) (p : List ℤ) → look (around r.piece.now no_cells) m name p ≡ source_at r m s p
