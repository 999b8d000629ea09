-- What the command that writes an algorithm's canonical text does to the files.
use Rattle.std.specs.Prelude.{◌≡◌, ◌⊎◌, ◌<◌, ℕ, List, length}
use Rattle.tree.specs.Token.Lexical.{max_text}
use Rattle.meaning.specs.Algorithm.{Algorithm}
use Rattle.algo.specs.Refusal.{IsAlgorithmText}
use Rattle.algo.specs.declared.error.Code.TheVariants.{TooLarge}
use Rattle.printer.specs.Written.{canonical_text}
use Rattle.commands.specs.declared.pipeline.fault.Fault.{Fault}
use Rattle.commands.specs.declared.pipeline.fault.Fault.TheVariants.{Algo}
use Rattle.commands.specs.Asked.{AskedFormat}
use Rattle.commands.specs.Files.{Contents, Holds, Puts, SameFiles, SameOthers}
use Rattle.commands.specs.Pictures.{IsOfDevice, IsTextFault}

-- ---- the canonical text

-- the bytes are the canonical text of this algorithm, and stand for it
abbrev pub IsCanonical : Algorithm → List ℕ → Type 0
IsCanonical a bytes = (bytes ≡ canonical_text a) × IsAlgorithmText bytes a

-- the canonical text is longer than a text may be: too large, at all bytes of the text of so many that says the algorithm
abbrev pub IsTooLong : Algorithm → ℕ → Fault → Type 0
IsTooLong a n fault = (max_text < length (canonical_text a)) × (fault ≡ Algo TooLarge (record { start = 0; end = n }))

-- why there is none: it is too long
abbrev pub IsNotSpelled : Algorithm → ℕ → Fault → Type 0
IsNotSpelled a n fault = IsOfDevice fault ⊎ IsTooLong a n fault

-- ---- what is done

-- the bytes are the canonical text of the algorithm of the one file
pub record IsFormatted (files : Contents) (a : AskedFormat) (bytes : List ℕ) : Type 0 where
  pub text : List ℕ
  pub algorithm : Algorithm
  pub holds_text : Holds files a.algorithm text
  pub is_text : IsAlgorithmText text algorithm
  pub canonical : IsCanonical algorithm bytes

-- the text was put, and nothing else
abbrev pub IsDone : Contents → Contents → AskedFormat → Type 0
IsDone old new a = (bytes : List ℕ) × IsFormatted old a bytes × Puts old new a.output bytes

-- ---- why something is refused

-- the algorithm's text is refused
pub record TextRefused (files : Contents) (a : AskedFormat) (fault : Fault) : Type 0 where
  pub text : List ℕ
  pub holds_text : Holds files a.algorithm text
  pub refused : IsTextFault text fault

-- it is accepted, and the canonical text is too long
pub record TooLongRefused (files : Contents) (a : AskedFormat) (fault : Fault) : Type 0 where
  pub text : List ℕ
  pub algorithm : Algorithm
  pub holds_text : Holds files a.algorithm text
  pub is_text : IsAlgorithmText text algorithm
  pub refused : IsTooLong algorithm (length text) fault

-- why nothing was put
abbrev pub IsReason : Contents → AskedFormat → Fault → Type 0
IsReason files a fault = IsOfDevice fault ⊎ (TextRefused files a fault ⊎ TooLongRefused files a fault)

-- the text was made, and could not be put
abbrev pub IsNotPut : Contents → Contents → AskedFormat → Fault → Type 0
IsNotPut old new a fault = IsOfDevice fault × SameOthers old new a.output × ((bytes : List ℕ) × IsFormatted old a bytes)

-- nothing was put, for a reason; or all else had succeeded, and all files but the text are as before
abbrev pub IsRefused : Contents → Contents → AskedFormat → Fault → Type 0
IsRefused old new a fault = (SameFiles old new × IsReason old a fault) ⊎ IsNotPut old new a fault
