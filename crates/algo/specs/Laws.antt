-- Laws of refusals, and of what an algorithm that was read names and says.
use Rattle.std.specs.Prelude.{◌≡◌, ℕ, List}
use Rattle.tree.specs.declared.token.span.Span.{Span}
use Rattle.tree.specs.Term.{Term}
use Rattle.expr.specs.declared.statements.statement.File.{File}
use Rattle.expr.specs.Statements.Text.{FileText}
use Rattle.expr.specs.Statements.Grammar.{IsTextOf}
use Rattle.expr.specs.Statements.View.{file_text}
use Rattle.meaning.specs.Algorithm.{Algorithm}
use Rattle.algo.specs.declared.error.Code.TheVariants.{LaterCall}
use Rattle.algo.specs.declared.error.AlgoError.{AlgoError}
use Rattle.algo.specs.declared.error.AlgoError.TheVariants.{Memory, Refused}
use Rattle.algo.specs.Saying.{IsWellFormed}
use Rattle.algo.specs.Keeping.{FileBreaks}
use Rattle.algo.specs.Faults.{TellsOfFile}
use Rattle.algo.specs.Refusal.{IsRefusedText, IsRefusedPlace, IsNoAlgorithm, IsAlgorithmText}
use Rattle.algo.specs.Calls.{LaterCallAt}
use Rattle.algo.specs.Words.{IsNamed}
use Rattle.algo.specs.Written.{AreExpressionsWritten}

-- a well-formed file keeps each condition that a refusal can name
abbrev pub WellFormedBreaksNothing : Type 0
WellFormedBreaksNothing = (file : FileText Term) (e : AlgoError) → FileBreaks file e → IsWellFormed file → e ≡ Memory

-- a fault that is told at its place is one of the condition that its code stands for
abbrev pub ToldBreaks : Type 0
ToldBreaks = (file : File) (e : AlgoError) → TellsOfFile file e → FileBreaks (file_text file) e

-- what is refused is no algorithm
abbrev pub RefusedIsNoAlgorithm : Type 0
RefusedIsNoAlgorithm = (text : List ℕ) (e : AlgoError) → IsRefusedText text e → IsNoAlgorithm text e

-- where a text is refused for a call of a function that is not declared before, the bytes at the place are the name of such a call
abbrev pub LaterCallsAreNamed : Type 0
LaterCallsAreNamed = (text : List ℕ) (at : Span) → IsRefusedPlace text (Refused LaterCall at) → (file : File) × IsTextOf text (file_text file) × LaterCallAt text file at

-- the names of an algorithm that was read are words of its text: letters, digits and `_`, the first no digit, at most 16 of them, no type and no word of the grammar
abbrev pub NamesAreWords : Type 0
NamesAreWords = (text : List ℕ) (a : Algorithm) → IsAlgorithmText text a → IsNamed a

-- its expressions have literals from 0 on that are in their types, such names, and an index at least in each call
abbrev pub ExpressionsAreWritten : Type 0
ExpressionsAreWritten = (text : List ℕ) (a : Algorithm) → IsAlgorithmText text a → AreExpressionsWritten a
