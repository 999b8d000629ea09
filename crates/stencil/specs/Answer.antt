-- What the program does on its words, and the status that it answers.
use Rattle.std.specs.Prelude.{◌≡◌, ◌⊎◌, ℕ, List, Option, Result, IfErr, MatchResult}
use Rattle.clap.specs.Words.{Text}
use Rattle.commands.specs.declared.pipeline.fault.Fault.{Fault}
use Rattle.commands.specs.Pipeline.Pictures as streams
use Rattle.commands.specs.Asked.{Asked, Picture, Format, Explain, Compile, Check, Cost, Show, Draw, Replay, Compare, Crop, Tiles}
use Rattle.commands.specs.Checks.{IsChecked, IsCheckRefused}
use Rattle.stencil.specs.Compares.{IsCompared, IsCompareRefused}
use Rattle.commands.specs.Replays.{IsReplayed, IsReplayRefused}
use Rattle.commands.specs.Files.{Contents, SameFiles}
use Rattle.commands.specs.Line.{AsksFor, AsksHelp, AsksVersion, IsMisuse}
use Rattle.stencil.specs.Compiles as compiling
use Rattle.commands.specs.Crops as cropping
use Rattle.commands.specs.Tilings as tiling
use Rattle.commands.specs.Draws as drawing
use Rattle.commands.specs.Formats as formatting
use Rattle.commands.specs.Pictures.{IsDone, IsOfDevice, IsRefused}
use Rattle.commands.specs.Status.{status_after, status_of}

-- without words, from the input to the output: all is done; or it is, but the output could not hand it on; or there is a refusal
abbrev pub StreamsAnswer : List ℕ → List ℕ → Option (List ℕ) → Option (List ℕ) → Option (List ℕ) → Option (List ℕ) → ℕ → Type 0
StreamsAnswer text file read left held holds status =
    (((status ≡ 0) ⊎ (status ≡ 5)) × streams.IsDone text file read left held holds)
    ⊎ ((fault : Fault) × (status ≡ status_of fault) × streams.IsRefused text file read left held holds fault)

-- what came of this command
abbrev pub Ends : Contents → Contents → Asked → Result (Unit {0}) Fault → Type 0
Ends old new (Picture a) outcome = MatchResult outcome (λ _. IsDone old new a) (IsRefused old new a)
Ends old new (Format a) outcome = MatchResult outcome (λ _. formatting.IsDone old new a) (formatting.IsRefused old new a)
Ends old new (Explain code) outcome = SameFiles old new × IfErr outcome IsOfDevice
Ends old new (Compile a) outcome = MatchResult outcome (λ _. compiling.IsDone old new a) (compiling.IsRefused old new a)
Ends old new (Check a) outcome = SameFiles old new × MatchResult outcome (λ _. IsChecked old a) (IsCheckRefused old a)
Ends old new (Cost a) outcome = SameFiles old new × MatchResult outcome (λ _. IsChecked old a) (IsCheckRefused old a)
Ends old new (Show a) outcome = SameFiles old new × MatchResult outcome (λ _. IsChecked old a) (IsCheckRefused old a)
Ends old new (Draw a) outcome = MatchResult outcome (λ _. drawing.IsDone old new a) (drawing.IsRefused old new a)
Ends old new (Replay a) outcome = SameFiles old new × MatchResult outcome (λ _. IsReplayed old a) (IsReplayRefused old a)
Ends old new (Compare a) outcome = SameFiles old new × MatchResult outcome (λ _. IsCompared old a) (IsCompareRefused old a)
Ends old new (Crop a) outcome = MatchResult outcome (λ _. cropping.IsDone old new a) (cropping.IsRefused old new a)
Ends old new (Tiles a) outcome = MatchResult outcome (λ _. tiling.IsDone old new a) (tiling.IsRefused old new a)

-- this came of the command, and the status is that of it
pub record HasEnded (old new : Contents) (asked : Asked) (status : ℕ) : Type 0 where
  pub outcome : Result (Unit {0}) Fault
  pub ends : Ends old new asked outcome
  pub answer : status ≡ status_after outcome

-- the words ask for something, and the status is that of what came of it
abbrev pub CommandEnds : List Text → Contents → Contents → ℕ → Type 0
CommandEnds words old new status = (asked : Asked) × AsksFor words asked × HasEnded old new asked status

-- no command is run: the words ask for help or the version, which may fail to be written, or are a fault, or there is no memory to read them
abbrev pub WordsAnswer : List Text → ℕ → Type 0
WordsAnswer words status =
    (((status ≡ 0) ⊎ (status ≡ 5)) × (AsksHelp words ⊎ AsksVersion words)) ⊎ (((status ≡ 2) × IsMisuse words) ⊎ (status ≡ 4))

-- what the program does to the files, and its status, on words of which there is one or more
abbrev pub CommandAnswers : List Text → Contents → Contents → ℕ → Type 0
CommandAnswers words old new status = CommandEnds words old new status ⊎ (SameFiles old new × WordsAnswer words status)
