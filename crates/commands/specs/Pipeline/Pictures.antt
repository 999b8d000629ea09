-- From an algorithm's text, a plan file and an image file to the picture: what is done, and why something is refused.
use Rattle.std.specs.Prelude.{◌≡◌, ◌⊎◌, ℕ, List, Option, ⊤, Err}
use Rattle.std.specs.Io.KnownBytes.{Keeps, Appends}
use Rattle.meaning.specs.Algorithm.{Algorithm}
use Rattle.algo.specs.Parts.{input_frame}
use Rattle.algo.specs.Refusal.{IsAlgorithmText}
use Rattle.algo.specs.View.{picture_said}
use Rattle.plain.specs.Picture.{SomeAbove}
use Rattle.pnm.specs.declared.error.PnmError.{PnmError}
use Rattle.pnm.specs.declared.error.PnmError.TheVariants as image
use Rattle.pnm.specs.Reading.{wanted_of}
use Rattle.pnm.specs.Source.{ReadsFile, Sends, StopsSomewhere}
use Rattle.pnm.specs.Text.{text_of}
use Rattle.commands.specs.declared.pipeline.fault.Fault.{Fault}
use Rattle.commands.specs.declared.pipeline.fault.Fault.TheVariants.{Memory, Algo, Form, Limit, Plan, Image, Budget}
use Rattle.commands.specs.Pipeline.Texts.{IsImageRefused, IsTextRefused, IsUntouched}
use Rattle.commands.specs.Pipeline.PlanFiles.{HasPlan, IsFileRefused}

-- some pixel of the picture takes more evaluations than it may; want of memory says nothing
abbrev pub IsBudgetSpent : Algorithm → List ℕ → ℕ → Fault → Type 0
IsBudgetSpent a samples most Memory = ⊤
IsBudgetSpent a samples most Budget = SomeAbove a samples most
IsBudgetSpent a samples most _ = ⊥

-- ---- what is done

-- the text is an algorithm of which the checker accepts the plan, the reader gave the file of an image, and the writer took the
-- file of the picture that the algorithm says of that image
pub record IsDone (text : List ℕ) (file : List ℕ) (read left held holds : Option (List ℕ)) : Type 0 where
  pub algorithm : Algorithm
  pub samples : List ℕ
  pub is_text : IsAlgorithmText text algorithm
  pub ready : HasPlan algorithm file
  pub reads : ReadsFile (wanted_of (input_frame algorithm)) read left samples
  pub writes : Appends held holds (text_of (picture_said algorithm samples))

-- ---- why something is refused

-- the text is an algorithm, and the plan file is refused
pub record PlanRefused (text : List ℕ) (file : List ℕ) (fault : Fault) : Type 0 where
  pub algorithm : Algorithm
  pub is_text : IsAlgorithmText text algorithm
  pub refused : IsFileRefused algorithm file fault

-- the checker accepts the plan, and the image is refused
pub record ImageRefused (text : List ℕ) (file : List ℕ) (read left : Option (List ℕ)) (fault : Fault) : Type 0 where
  pub algorithm : Algorithm
  pub is_text : IsAlgorithmText text algorithm
  pub ready : HasPlan algorithm file
  pub refused : IsImageRefused (input_frame algorithm) read left fault

-- all is as where the picture is written, but the writer failed and took a beginning of the file
pub record OutputFailed (text : List ℕ) (file : List ℕ) (read left held holds : Option (List ℕ)) : Type 0 where
  pub algorithm : Algorithm
  pub samples : List ℕ
  pub is_text : IsAlgorithmText text algorithm
  pub ready : HasPlan algorithm file
  pub reads : ReadsFile (wanted_of (input_frame algorithm)) read left samples
  pub writes : Sends held holds (text_of (picture_said algorithm samples)) (Err image.Device)

-- the image was refused and nothing was written; or the device failed, and it was the writer
abbrev pub DevicesFail : List ℕ → List ℕ → Option (List ℕ) → Option (List ℕ) → Option (List ℕ) → Option (List ℕ) → PnmError → Type 0
DevicesFail text file read left held holds e =
    (ImageRefused text file read left (Image e) × Keeps held holds) ⊎ ((e ≡ image.Device) × OutputFailed text file read left held holds)

-- what stands after a refusal, and why it comes; no piece is ever left unfinished
abbrev pub IsRefused : List ℕ → List ℕ → Option (List ℕ) → Option (List ℕ) → Option (List ℕ) → Option (List ℕ) → Fault → Type 0
IsRefused text file read left held holds Memory = StopsSomewhere read left × Keeps held holds
IsRefused text file read left held holds (Algo code span) = IsTextRefused text (Algo code span) × IsUntouched read left held holds
IsRefused text file read left held holds (Form line) = PlanRefused text file (Form line) × IsUntouched read left held holds
IsRefused text file read left held holds (Limit line) = PlanRefused text file (Limit line) × IsUntouched read left held holds
IsRefused text file read left held holds (Plan code line) = PlanRefused text file (Plan code line) × IsUntouched read left held holds
IsRefused text file read left held holds (Image e) = DevicesFail text file read left held holds e
IsRefused text file read left held holds _ = ⊥

-- ---- from an algorithm on, and from a plan of it that the checker accepts

-- it is done for whichever text says the algorithm
abbrev pub IsDoneByFile : Algorithm → List ℕ → Option (List ℕ) → Option (List ℕ) → Option (List ℕ) → Option (List ℕ) → Type 0
IsDoneByFile a file read left held holds = (text : List ℕ) → IsAlgorithmText text a → IsDone text file read left held holds

-- it is refused for whichever text says it
abbrev pub IsRefusedByFile : Algorithm → List ℕ → Option (List ℕ) → Option (List ℕ) → Option (List ℕ) → Option (List ℕ) → Fault → Type 0
IsRefusedByFile a file read left held holds fault = (text : List ℕ) → IsAlgorithmText text a → IsRefused text file read left held holds fault

-- it is done whichever file says the plan
abbrev pub IsDoneByPlan : Algorithm → Option (List ℕ) → Option (List ℕ) → Option (List ℕ) → Option (List ℕ) → Type 0
IsDoneByPlan a read left held holds = (file : List ℕ) → HasPlan a file → IsDoneByFile a file read left held holds

-- it is refused whichever file says it
abbrev pub IsRefusedByPlan : Algorithm → Option (List ℕ) → Option (List ℕ) → Option (List ℕ) → Option (List ℕ) → Fault → Type 0
IsRefusedByPlan a read left held holds fault = (file : List ℕ) → HasPlan a file → IsRefusedByFile a file read left held holds fault
