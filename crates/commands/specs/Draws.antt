-- What the command that draws a plan's pieces does to the files.
use Rattle.std.specs.Prelude.{◌≡◌, ◌⊎◌, ℕ, List, Option, None, Some, ⊤}
use Rattle.clap.specs.Words.{Text}
use Rattle.meaning.specs.Algorithm.{Algorithm}
use Rattle.meaning.specs.Image.View.{Picture}
use Rattle.pnm.specs.Text.{text_of}
use Rattle.report.specs.Drawing.{IsDrawing}
use Rattle.commands.specs.declared.pipeline.fault.Fault.{Fault}
use Rattle.commands.specs.Asked.{AskedDraw}
use Rattle.commands.specs.Checks.{IsChecked, IsCheckRefused}
use Rattle.commands.specs.Files.{Contents, Holds, Puts, SameFiles, SameOthers}
use Rattle.commands.specs.Order.Order.{IsOrder}
use Rattle.commands.specs.Pictures.{IsOfDevice}
use Rattle.commands.specs.Replays.{IsOrderFault}

-- ---- the order

-- there is a file of that name, and it is the text of an order
abbrev pub IsOrderFile : Contents → Text → Type 0
IsOrderFile files name = (text : List ℕ) × Holds files name text × ((workers : List ℕ) × IsOrder text workers)

-- why it is none
abbrev pub IsNoOrderFile : Contents → Text → Fault → Type 0
IsNoOrderFile files name fault = IsOfDevice fault ⊎ ((text : List ℕ) × Holds files name text × IsOrderFault text fault)

-- the same of an order that may be left out
abbrev pub HasOrder : Contents → Option Text → Type 0
HasOrder files None = ⊤
HasOrder files (Some name) = IsOrderFile files name

abbrev pub IsUnordered : Contents → Option Text → Fault → Type 0
IsUnordered files None fault = ⊥
IsUnordered files (Some name) fault = IsNoOrderFile files name fault

-- ---- what is done

-- the bytes are the image file of a drawing of the algorithm's output, whole
abbrev pub IsDrawingFile : Algorithm → List ℕ → Type 0
IsDrawingFile a bytes = (p : Picture) × IsDrawing a p × (bytes ≡ text_of p)

-- the plan is accepted, the order is one, and the bytes are such a file
pub record IsDrawn (files : Contents) (a : AskedDraw) (bytes : List ℕ) : Type 0 where
  pub checked : IsChecked files a.check
  pub ordered : HasOrder files a.order
  pub drawn : IsDrawingFile checked.algorithm bytes

-- the drawing was put, and nothing else
abbrev pub IsDone : Contents → Contents → AskedDraw → Type 0
IsDone old new a = (bytes : List ℕ) × IsDrawn old a bytes × Puts old new a.output bytes

-- ---- why something is refused

-- the plan is accepted, and the order is none
pub record OrderRefused (files : Contents) (a : AskedDraw) (fault : Fault) : Type 0 where
  pub checked : IsChecked files a.check
  pub refused : IsUnordered files a.order fault

-- why nothing was put
abbrev pub IsReason : Contents → AskedDraw → Fault → Type 0
IsReason files a fault = IsOfDevice fault ⊎ (IsCheckRefused files a.check fault ⊎ OrderRefused files a fault)

-- the drawing was made, and it could not be put
abbrev pub IsNotPut : Contents → Contents → AskedDraw → Fault → Type 0
IsNotPut old new a fault = IsOfDevice fault × SameOthers old new a.output × ((bytes : List ℕ) × IsDrawn old a bytes)

-- nothing was put, for a reason; or all else had succeeded, and all files but the drawing are as before
abbrev pub IsRefused : Contents → Contents → AskedDraw → Fault → Type 0
IsRefused old new a fault = (SameFiles old new × IsReason old a fault) ⊎ IsNotPut old new a fault
