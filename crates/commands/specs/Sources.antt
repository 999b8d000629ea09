-- What is read of the files that a command names.
use Rattle.std.specs.Prelude.{◌≡◌, ◌⊎◌, ℕ, List, Ok, length}
use Rattle.clap.specs.Words.{Text}
use Rattle.meaning.specs.Algorithm.{Algorithm}
use Rattle.algo.specs.Parts.{input_frame}
use Rattle.algo.specs.Refusal.{IsAlgorithmText}
use Rattle.algo.specs.View.{picture_said}
use Rattle.pnm.specs.Reading.{reading, wanted_of}
use Rattle.pnm.specs.Text.{text_of}
use Rattle.commands.specs.declared.pipeline.fault.Fault.{Fault}
use Rattle.commands.specs.Asked.{AskedDraw, AskedPicture, AskedReplay}
use Rattle.commands.specs.Draws.{HasOrder, IsDrawingFile, IsNoOrderFile, IsOrderFile, IsUnordered}
use Rattle.commands.specs.Files.{Contents, Holds, IsPut}
use Rattle.commands.specs.Formats.{IsCanonical, IsNotSpelled}
use Rattle.commands.specs.Order.Order.{IsOrder}
use Rattle.commands.specs.Pictures.{HasPlanFile, IsAffordable, IsImageFault, IsOfDevice, IsPlanFault, IsReady, IsStopped, IsTextFault, IsUnput, IsUnready}

-- ---- one file

-- there is a file of that name, and it is the text of this algorithm
abbrev pub IsAlgorithmFile : Contents → Text → Algorithm → Type 0
IsAlgorithmFile files name a = (text : List ℕ) × Holds files name text × IsAlgorithmText text a

-- why it is none
abbrev pub IsNoAlgorithmFile : Contents → Text → Fault → Type 0
IsNoAlgorithmFile files name fault = IsOfDevice fault ⊎ ((text : List ℕ) × Holds files name text × IsTextFault text fault)

-- there is a file of that name, and it is an image with these samples for the algorithm
abbrev pub IsImageFile : Contents → Text → Algorithm → List ℕ → Type 0
IsImageFile files name a samples = (image : List ℕ) × Holds files name image × (reading (wanted_of (input_frame a)) image ≡ Ok samples)

-- why it is none for the algorithm
abbrev pub IsNoImageFile : Contents → Text → Algorithm → Fault → Type 0
IsNoImageFile files name a fault = IsOfDevice fault ⊎ ((image : List ℕ) × Holds files name image × IsImageFault (input_frame a) image fault)

-- there is a file of that name, and it is the text of this order
abbrev pub IsFileOfOrder : Contents → Text → List ℕ → Type 0
IsFileOfOrder files name workers = (text : List ℕ) × Holds files name text × IsOrder text workers

-- ---- canonical texts

-- the bytes are the canonical text of the algorithm of this text
abbrev pub IsFormattedText : List ℕ → List ℕ → Type 0
IsFormattedText text bytes = (algorithm : Algorithm) × IsAlgorithmText text algorithm × IsCanonical algorithm bytes

-- why there is none
abbrev pub IsUnformatted : List ℕ → Fault → Type 0
IsUnformatted text fault = IsTextFault text fault ⊎ ((algorithm : Algorithm) × IsAlgorithmText text algorithm × IsNotSpelled algorithm (length text) fault)

-- ---- what is made of an algorithm that was read

-- the bytes are the image file of the picture that the algorithm says of the image
pub record IsPictureOf (files : Contents) (a : AskedPicture) (algorithm : Algorithm) (bytes : List ℕ) : Type 0 where
  pub samples : List ℕ
  pub ready : IsReady files a.way algorithm
  pub image : IsImageFile files a.input algorithm samples
  pub affordable : IsAffordable a.way algorithm samples
  pub whole : bytes ≡ text_of (picture_said algorithm samples)

-- an image is read, and the picture was not computed
abbrev pub IsStoppedAt : Contents → AskedPicture → Algorithm → Fault → Type 0
IsStoppedAt files a algorithm fault = (samples : List ℕ) × IsImageFile files a.input algorithm samples × IsStopped a.way algorithm samples fault

-- why there is no such picture
abbrev pub IsUnmade : Contents → AskedPicture → Algorithm → Fault → Type 0
IsUnmade files a algorithm fault =
    IsUnready files a.way algorithm fault ⊎ ((IsReady files a.way algorithm × IsNoImageFile files a.input algorithm fault) ⊎ IsStoppedAt files a algorithm fault)

-- the picture was put, and nothing else
abbrev pub IsPicturePut : Contents → Contents → AskedPicture → Algorithm → Type 0
IsPicturePut old new a algorithm = IsPut old new a.output (IsPictureOf old a algorithm)

-- why it was not put, and what stands then
abbrev pub IsPictureUnput : Contents → Contents → AskedPicture → Algorithm → Fault → Type 0
IsPictureUnput old new a algorithm fault = IsUnput old new a.output (IsPictureOf old a algorithm) (IsUnmade old a algorithm) fault

-- the bytes are the image file of a drawing of a plan of the algorithm, after the order that is asked for
pub record IsDrawingOf (files : Contents) (a : AskedDraw) (algorithm : Algorithm) (bytes : List ℕ) : Type 0 where
  pub planned : HasPlanFile files a.check.plan algorithm
  pub ordered : HasOrder files a.order
  pub drawn : IsDrawingFile algorithm bytes

-- why there is no such drawing
abbrev pub IsUndrawn : Contents → AskedDraw → Algorithm → Fault → Type 0
IsUndrawn files a algorithm fault =
    IsPlanFault files a.check.plan algorithm fault ⊎ (HasPlanFile files a.check.plan algorithm × (IsOfDevice fault ⊎ IsUnordered files a.order fault))

-- the drawing was put, and nothing else
abbrev pub IsDrawingPut : Contents → Contents → AskedDraw → Algorithm → Type 0
IsDrawingPut old new a algorithm = IsPut old new a.output (IsDrawingOf old a algorithm)

-- why it was not put, and what stands then
abbrev pub IsDrawingUnput : Contents → Contents → AskedDraw → Algorithm → Fault → Type 0
IsDrawingUnput old new a algorithm fault = IsUnput old new a.output (IsDrawingOf old a algorithm) (IsUndrawn old a algorithm) fault

-- an order can be replayed on the algorithm's image
abbrev pub IsPlayable : Contents → AskedReplay → Algorithm → Type 0
IsPlayable files a algorithm = ((samples : List ℕ) × IsImageFile files a.input algorithm samples) × IsOrderFile files a.order

-- why none is, or what came of it can't be told
abbrev pub IsUnplayed : Contents → AskedReplay → Algorithm → Fault → Type 0
IsUnplayed files a algorithm fault =
    IsNoImageFile files a.input algorithm fault ⊎ (((samples : List ℕ) × IsImageFile files a.input algorithm samples) × IsNoOrderFile files a.order fault)
