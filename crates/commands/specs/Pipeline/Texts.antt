-- What is read of an algorithm's text and of an image file, and why one of them is refused.
use Rattle.std.specs.Prelude.{◌≢◌, ℕ, List, Option, ⊤}
use Rattle.std.specs.Io.KnownBytes.{Keeps}
use Rattle.meaning.specs.Image.View.{Frame}
use Rattle.algo.specs.Refusal.{IsRefusedText, IsNoAlgorithm}
use Rattle.algo.specs.declared.error.AlgoError.TheVariants as algo_error
use Rattle.pnm.specs.declared.error.PnmError.TheVariants as image
use Rattle.pnm.specs.Reading.{wanted_of}
use Rattle.pnm.specs.Source.{Refuses, StopsSomewhere}
use Rattle.commands.specs.declared.pipeline.fault.Fault.{Fault}
use Rattle.commands.specs.declared.pipeline.fault.Fault.TheVariants.{Memory, Algo, Image}

-- ---- the algorithm's text

-- the text is no algorithm, for the reason that the error names; want of memory says nothing
abbrev pub IsTextRefused : List ℕ → Fault → Type 0
IsTextRefused text Memory = ⊤
IsTextRefused text (Algo code span) = IsRefusedText text (algo_error.Refused code span) × IsNoAlgorithm text (algo_error.Refused code span)
IsTextRefused text _ = ⊥

-- ---- the image

-- where a reader stands after its bytes were refused as the file of an image of this type and these extents
abbrev pub IsImageRefused : Frame → Option (List ℕ) → Option (List ℕ) → Fault → Type 0
IsImageRefused f old new Memory = StopsSomewhere old new
IsImageRefused f old new (Image e) = (e ≢ image.Memory) × Refuses (wanted_of f) old new e
IsImageRefused f old new _ = ⊥

-- ---- the reader and the writer

-- nothing was read and nothing was written
abbrev pub IsUntouched : Option (List ℕ) → Option (List ℕ) → Option (List ℕ) → Option (List ℕ) → Type 0
IsUntouched read left held holds = Keeps read left × Keeps held holds
