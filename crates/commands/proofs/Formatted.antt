-- Why no canonical text was put.
use Rattle.std.proofs.Common.{List, ℕ, length, inl, inr}
use Rattle.meaning.specs.Algorithm.{Algorithm}
use Rattle.algo.specs.Refusal.{IsAlgorithmText}
use Rattle.commands.specs.declared.pipeline.fault.Fault.{Fault}
use Rattle.commands.specs.Asked.{AskedFormat}
use Rattle.commands.specs.Files.{Contents, Holds, SameFiles}
use Rattle.commands.specs.Formats.{IsNotSpelled, IsRefused}

-- that of an algorithm that was read is too long
pub not_spelled : (old new : Contents) (a : AskedFormat) (text : List ℕ) (algorithm : Algorithm) (fault : Fault) → SameFiles old new → Holds old a.algorithm text
    → IsAlgorithmText text algorithm → IsNotSpelled algorithm (length text) fault → IsRefused old new a fault
not_spelled old new a text algorithm fault same holds said (inl device) = inl (same, inl device)
not_spelled old new a text algorithm fault same holds said (inr long) =
    inl (same, inr (inr (record { text = text; algorithm = algorithm; holds_text = holds; is_text = said; refused = long })))
