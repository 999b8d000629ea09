-- Which text is an algorithm, and why a text is refused.
use Rattle.std.specs.Prelude.{◌≡◌, ◌≤◌, ◌⊎◌, ℕ, List, length, Option, Some, None}
use Rattle.tree.specs.Token.Lexical.{max_text}
use Rattle.tree.specs.declared.token.span.Span.{Span}
use Rattle.tree.specs.Term.{Term}
use Rattle.meaning.specs.Algorithm.{Algorithm}
use Rattle.expr.specs.declared.statements.error.FormError.{FormError}
use Rattle.expr.specs.declared.statements.error.FormError.TheVariants as form
use Rattle.expr.specs.Statements.Text.{FileText}
use Rattle.expr.specs.Statements.Grammar.{IsTextOf}
use Rattle.expr.specs.Statements.Places.{IsRefused}
use Rattle.expr.specs.Statements.Standing.{NamesStand}
use Rattle.expr.specs.Statements.Marks.{PartsStand}
use Rattle.expr.specs.Statements.View.{file_text}
use Rattle.expr.specs.declared.statements.statement.File.{File}
use Rattle.algo.specs.declared.error.Code.{Code}
use Rattle.algo.specs.declared.error.Code.TheVariants.{BadToken, BadForm, TooLarge}
use Rattle.algo.specs.declared.error.AlgoError.{AlgoError}
use Rattle.algo.specs.declared.error.AlgoError.TheVariants.{Memory, Refused}
use Rattle.algo.specs.Saying.{says, IsWellFormed}
use Rattle.algo.specs.Keeping.{FileBreaks}
use Rattle.algo.specs.Faults.{TellsOfFile}
use Rattle.algo.specs.Calls.{CallsStand}

-- the code of a refusal, and its place
abbrev pub code_of : AlgoError → Option Code
code_of Memory = None
code_of (Refused code span) = Some code

abbrev pub place_of : AlgoError → Option Span
place_of Memory = None
place_of (Refused code span) = Some span

-- a fault of the form as one of an algorithm
abbrev pub form_error : FormError → AlgoError
form_error form.Memory = Memory
form_error (form.BadToken span) = Refused BadToken span
form_error (form.BadForm span) = Refused BadForm span
form_error (form.TooLarge span) = Refused TooLarge span

-- the text stands for one file and nothing else, and the file is well formed and says the algorithm
pub record IsAlgorithmText (text : List ℕ) (a : Algorithm) : Type 0 where
  pub file : FileText Term
  pub found : IsTextOf text file
  pub only : (other : FileText Term) → IsTextOf text other → other ≡ file
  pub said : a ≡ says file
  pub kept : IsWellFormed file

-- some text says the algorithm
abbrev pub IsRead : Algorithm → Type 0
IsRead a = ∥ ((text : List ℕ) × IsAlgorithmText text a) ∥₁

-- the text stands for this file and nothing else
pub record IsOnlyTextOf (text : List ℕ) (file : FileText Term) : Type 0 where
  pub found : IsTextOf text file
  pub only : (other : FileText Term) → IsTextOf text other → other ≡ file

-- some text does
abbrev pub IsFileRead : FileText Term → Type 0
IsFileRead file = ∥ ((text : List ℕ) × IsOnlyTextOf text file) ∥₁

-- the form of the text is refused
pub record FormRefused (text : List ℕ) (e : AlgoError) : Type 0 where
  pub fault : FormError
  pub refused : IsRefused text fault
  pub is : e ≡ form_error fault

-- the text stands for one file and nothing else, and a statement of it does not keep the condition that the error names
pub record StatementRefused (text : List ℕ) (e : AlgoError) : Type 0 where
  pub file : FileText Term
  pub found : IsTextOf text file
  pub only : (other : FileText Term) → IsTextOf text other → other ≡ file
  pub broken : FileBreaks file e

-- the text stands for this file and nothing else, whose names, numbers, types and expressions, with all their parts, and the
-- names of the calls in them stand in the text where the file says, and the error tells a fault of the file and its place
pub record PlaceRefused (text : List ℕ) (e : AlgoError) : Type 0 where
  pub file : File
  pub found : IsTextOf text (file_text file)
  pub only : (other : FileText Term) → IsTextOf text other → other ≡ file_text file
  pub stands : NamesStand text file
  pub placed : PartsStand text file
  pub called : CallsStand text file
  pub fault : TellsOfFile file e

-- the form of the text is refused at this place, or a statement of it breaks the condition of the code there
abbrev pub IsRefusedPlace : List ℕ → AlgoError → Type 0
IsRefusedPlace text e = FormRefused text e ⊎ PlaceRefused text e

-- why a text is no algorithm
abbrev pub IsRefusedText : List ℕ → AlgoError → Type 0
IsRefusedText text e = FormRefused text e ⊎ StatementRefused text e

-- the text is no algorithm, unless the error is want of memory; a text that is too long is not looked at
abbrev pub IsNoAlgorithm : List ℕ → AlgoError → Type 0
IsNoAlgorithm text e = length text ≤ max_text → (a : Algorithm) → IsAlgorithmText text a → e ≡ Memory
