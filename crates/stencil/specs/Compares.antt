-- What the command that compares schedules finds.
use Rattle.std.specs.Prelude.{◌≡◌, ◌⊎◌, ◌^◌, ℕ, List, All, Some, Ok, false, slice_get, take}
use Rattle.clap.specs.Words.{Text}
use Rattle.meaning.specs.Algorithm.{Algorithm}
use Rattle.algo.specs.Parts.{input_frame}
use Rattle.algo.specs.Refusal.{IsAlgorithmText}
use Rattle.pnm.specs.Reading.{reading, wanted_of}
use Rattle.sched.specs.Schedule.{Schedule}
use Rattle.sched.specs.Legal.{IsLegal}
use Rattle.commands.specs.declared.pipeline.fault.Fault.{Fault}
use Rattle.commands.specs.Asked.{AskedCompare}
use Rattle.stencil.specs.Compiles.{HasScheduleFile, IsScheduleFault}
use Rattle.commands.specs.Files.{Contents, Holds, SameFiles}
use Rattle.commands.specs.Sources.{IsAlgorithmFile}
use Rattle.commands.specs.Pictures.{IsImageFault, IsOfDevice, IsTextFault}
use Rattle.stencil.specs.Compiling.{IsNotCompiled}
use Rattle.commands.specs.Pipeline.Pictures.{IsBudgetSpent}

-- the file of this name is a schedule's text, and the schedule is legal
abbrev pub IsLegalFile : Contents → Algorithm → Text → Type 0
IsLegalFile files a name = (s : Schedule) × HasScheduleFile files name s × IsLegal a s

-- the one file is an algorithm's text, the other an image, and the others are legal schedules of the algorithm
pub record IsCompared (files : Contents) (a : AskedCompare) : Type 0 where
  pub text : List ℕ
  pub algorithm : Algorithm
  pub image : List ℕ
  pub samples : List ℕ
  pub holds_text : Holds files a.algorithm text
  pub is_text : IsAlgorithmText text algorithm
  pub holds_image : Holds files a.input image
  pub is_image : reading (wanted_of (input_frame algorithm)) image ≡ Ok samples
  pub schedules : All (IsLegalFile files algorithm) a.schedules

-- ---- why something is refused

-- no plan comes of the schedule of this file
abbrev pub IsUnplanned : Contents → Algorithm → Text → Fault → Type 0
IsUnplanned files a name fault = IsOfDevice fault ⊎ (IsScheduleFault files name fault ⊎ ((s : Schedule) × HasScheduleFile files name s × IsNotCompiled a s fault))

-- the algorithm's text is refused
pub record TextRefused (files : Contents) (a : AskedCompare) (fault : Fault) : Type 0 where
  pub text : List ℕ
  pub holds_text : Holds files a.algorithm text
  pub refused : IsTextFault text fault

-- it is accepted, and the image is refused
pub record ImageRefused (files : Contents) (a : AskedCompare) (fault : Fault) : Type 0 where
  pub text : List ℕ
  pub algorithm : Algorithm
  pub image : List ℕ
  pub holds_text : Holds files a.algorithm text
  pub is_text : IsAlgorithmText text algorithm
  pub holds_image : Holds files a.input image
  pub refused : IsImageFault (input_frame algorithm) image fault

-- both are accepted, the plain picture was asked for, and it was not computed
pub record PictureRefused (files : Contents) (a : AskedCompare) (fault : Fault) : Type 0 where
  pub text : List ℕ
  pub algorithm : Algorithm
  pub image : List ℕ
  pub samples : List ℕ
  pub holds_text : Holds files a.algorithm text
  pub is_text : IsAlgorithmText text algorithm
  pub holds_image : Holds files a.input image
  pub is_image : reading (wanted_of (input_frame algorithm)) image ≡ Ok samples
  pub by_plain : a.by_first ≡ false
  pub refused : IsBudgetSpent algorithm samples (2 ^ 32) fault

-- of schedules of these files, the first that no plan comes of
pub record IsRefusedAmong (files : Contents) (a : Algorithm) (names : List Text) (fault : Fault) : Type 0 where
  pub place : ℕ
  pub name : Text
  pub named : slice_get names place ≡ Some name
  pub before : All (IsLegalFile files a) (take place names)
  pub refused : IsUnplanned files a name fault

-- the plain picture was computed if it was asked for, and one of the schedules is refused
pub record ScheduleRefused (files : Contents) (a : AskedCompare) (fault : Fault) : Type 0 where
  pub text : List ℕ
  pub algorithm : Algorithm
  pub image : List ℕ
  pub samples : List ℕ
  pub holds_text : Holds files a.algorithm text
  pub is_text : IsAlgorithmText text algorithm
  pub holds_image : Holds files a.input image
  pub is_image : reading (wanted_of (input_frame algorithm)) image ≡ Ok samples
  pub refused : IsRefusedAmong files algorithm a.schedules fault

-- why the comparison ended; that pictures differ is no reason, since all are what the algorithm says
abbrev pub IsCompareRefused : Contents → AskedCompare → Fault → Type 0
IsCompareRefused files a fault =
    IsOfDevice fault ⊎ (TextRefused files a fault ⊎ (ImageRefused files a fault ⊎ (PictureRefused files a fault ⊎ ScheduleRefused files a fault)))

-- ---- of an algorithm that was read

-- the schedules were compared, whichever files these are that the algorithm was read of
abbrev pub IsComparedBy : Contents → AskedCompare → Algorithm → Type 0
IsComparedBy now a al = (files : Contents) → SameFiles files now → IsAlgorithmFile files a.algorithm al → IsCompared files a

-- why they were not
abbrev pub IsCompareRefusedBy : Contents → AskedCompare → Algorithm → Fault → Type 0
IsCompareRefusedBy now a al fault = (files : Contents) → SameFiles files now → IsAlgorithmFile files a.algorithm al → IsCompareRefused files a fault
