-- The names of calls stand in the text where their spans say.
use Rattle.std.specs.Prelude.{◌≡◌, ℕ, List, [], ◌∷◌, ◌++◌, take, map, Some, slice_get, Bool, All, Contains}
use Rattle.tree.specs.declared.token.span.Span.{Span}
use Rattle.tree.specs.Token.Lexical.{slice}
use Rattle.tree.specs.declared.expr.Expr.{Expr}
use Rattle.tree.specs.Term.{Terms}
use Rattle.meaning.specs.Conditions.{callable}
use Rattle.algo.specs.Scoping.Expressions.{is_known}
use Rattle.algo.specs.Scoping.Standing.{Written, name_place, placed_calls}
use Rattle.expr.specs.declared.statements.statement.Statement.{Statement}
use Rattle.expr.specs.declared.statements.statement.Statement.TheVariants as statement
use Rattle.expr.specs.declared.statements.statement.File.{File}
use Rattle.expr.specs.Statements.View.{input_text, statement_text}
use Rattle.algo.specs.Saying.{functions_said, input_said}
use Rattle.algo.specs.Faults.{CalledAt}

-- the value of a function; the left indices of an update and its right side
abbrev pub expressions : Statement → List Expr
expressions (statement.Function s) = s.value ∷ []
expressions (statement.Update s) = s.at.items ++ s.value ∷ []

-- the bytes of the text at the place of the call's name are the name
abbrev pub CallStands : List ℕ → Written × Span → Type 0
CallStands text call = slice text (name_place call.0.name call.1) ≡ call.0.name

-- the same of each call that stands in the expression
abbrev pub CallsStandIn : List ℕ → Expr → Type 0
CallsStandIn text e = All (CallStands text) (placed_calls e)

-- the same of each call that stands in an expression of the file
abbrev pub CallsStand : List ℕ → File → Type 0
CallsStand text file = All (λ s. All (CallsStandIn text) (expressions s)) file.statements.items

-- a call that the test refuses stands in one of the expressions; its name stands at this place, where the bytes of the text are the name
pub record NamedCallAt (text : List ℕ) (accepted : List ℕ → Terms → Bool) (es : List Expr) (at : Span) : Type 0 where
  pub expr : Expr
  pub among : Contains es expr
  pub called : CalledAt accepted expr at
  pub bytes : slice text at ≡ called.refused.name

-- a call of what is neither the input nor a function that the statements before say stands in a statement of the file; its name
-- stands at this place, where the bytes of the text are the name
pub record LaterCallAt (text : List ℕ) (file : File) (at : Span) : Type 0 where
  pub k : ℕ
  pub statement : Statement
  pub stands : slice_get file.statements.items k ≡ Some statement
  pub call : NamedCallAt text (is_known (callable (input_said (input_text file.input)) (functions_said (map statement_text (take k file.statements.items))))) (expressions statement) at
