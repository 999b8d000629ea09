-- The canonical text of an algorithm, and when there is none.
use Rattle.std.specs.Prelude.{◌≡◌, ℕ, ◌<◌, false, List, length}
use Rattle.tree.specs.Token.Lexical.{max_text}
use Rattle.meaning.specs.Algorithm.{Algorithm}
use Rattle.algo.specs.Refusal.{IsAlgorithmText}
use Rattle.printer.specs.declared.error.WriteError.{WriteError}
use Rattle.printer.specs.declared.error.WriteError.TheVariants.{Memory, TooLong}
use Rattle.printer.specs.Tokens.{algorithm_tokens}
use Rattle.printer.specs.Spacing.{text_of}

abbrev pub canonical_text : Algorithm → List ℕ
canonical_text a = text_of false (algorithm_tokens a)

-- why an algorithm is not written
abbrev pub IsNotWritten : Algorithm → WriteError → Type 0
IsNotWritten a Memory = Unit {0}
IsNotWritten a TooLong = max_text < length (canonical_text a)

-- a text says one algorithm
abbrev pub TextsSayOne : Type 0
TextsSayOne = (text : List ℕ) (a b : Algorithm) → IsAlgorithmText text a → IsAlgorithmText text b → a ≡ b
