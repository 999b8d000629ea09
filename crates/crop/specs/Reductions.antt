-- Reductions past the limits.
use Rattle.std.specs.Prelude.{◌≡◌, ◌⊎◌, ℕ, List, Some, slice_get, string_bytes}
use Rattle.tree.specs.Term.{Term}
use Rattle.expr.specs.Statements.Text.{UpdateText, update, FileText}
use Rattle.expr.specs.Statements.View.{named_text, update_text, file_text}
use Rattle.expr.specs.declared.statements.statement.UpdateStatement.{UpdateStatement}
use Rattle.expr.specs.declared.statements.statement.File.{File}
use Rattle.algo.specs.Keeping.{DomainLimits}
use Rattle.algo.specs.declared.error.AlgoError.{AlgoError}
use Rattle.algo.specs.declared.error.AlgoError.TheVariants.{Memory}
use Rattle.crop.specs.declared.scene_error.SceneError.{SceneError}
use Rattle.crop.specs.declared.scene_error.SceneError.TheVariants.{Text, Reduction}

-- the update is one of the file's
abbrev pub HasUpdate : File → UpdateStatement → Type 0
HasUpdate f u = (k : ℕ) × (slice_get (file_text f).statements k ≡ Some (update (update_text u)))

-- the refusal names the update's function, or is want of memory
abbrev pub IsNamed : UpdateStatement → SceneError → Type 0
IsNamed u (Text e) = e ≡ Memory
IsNamed u (Reduction name) = string_bytes name ≡ named_text u.name

-- an update of the function has a reduction domain past the limits
pub record HasLargeReduction (f : FileText Term) (name : List ℕ) : Type 0 where
  pub k : ℕ
  pub statement : UpdateText Term
  pub stands : slice_get f.statements k ≡ Some (update statement)
  pub named : statement.name ≡ name
  pub large : ¬ DomainLimits statement.domains

-- the refusal is the error, or want of memory, or names a function that has such an update where memory did not run out
abbrev pub Answers : File → AlgoError → SceneError → Type 0
Answers f error (Text e) = (e ≡ error) ⊎ (e ≡ Memory)
Answers f error (Reduction name) = HasLargeReduction (file_text f) (string_bytes name) × ¬ (error ≡ Memory)
