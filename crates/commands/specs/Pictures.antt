-- What the commands that write a picture do to the files.
use Rattle.std.specs.Prelude.{◌≡◌, ◌≢◌, ◌⊎◌, ◌≤◌, ◌<◌, ℕ, List, Option, None, Some, Ok, slice_get, take, ⊤}
use Rattle.meaning.specs.Image.View.{Frame}
use Rattle.meaning.specs.Algorithm.{Algorithm}
use Rattle.algo.specs.Parts.{input_frame}
use Rattle.algo.specs.View.{picture_said}
use Rattle.algo.specs.Refusal.{IsAlgorithmText}
use Rattle.clap.specs.Words.{Text}
use Rattle.plain.specs.Picture.{AllWithin}
use Rattle.plan.specs.declared.plan.Plan.{Plan as PlanMade}
use Rattle.plan.specs.Plan.{Plan}
use Rattle.plan.specs.View.{plan_of}
use Rattle.plan.specs.declared.certificate.cert.Cert.{Cert}
use Rattle.plan.specs.Certificate.Certificate.{Certificate, certificate_of}
use Rattle.pnm.specs.declared.error.PnmError.TheVariants.{Device}
use Rattle.pnm.specs.Reading.{reading, wanted_of}
use Rattle.pnm.specs.Text.{text_of}
use Rattle.report.specs.Costs.{all_stores, rows}
use Rattle.commands.specs.declared.pipeline.fault.Fault.{Fault}
use Rattle.commands.specs.declared.pipeline.fault.Fault.TheVariants.{Memory, Image, Budget}
use Rattle.commands.specs.Pipeline.Texts.{IsImageRefused, IsTextRefused}
use Rattle.commands.specs.Pipeline.PlanFiles.{HasPlan, IsAccepted, IsFileRefused}
use Rattle.commands.specs.Pipeline.Pictures.{IsBudgetSpent}
use Rattle.commands.specs.Asked.{AskedWay, Plain, File, AskedPicture}
use Rattle.commands.specs.Files.{Contents, Holds, Puts, SameFiles, SameOthers}

-- ---- the ways

-- memory ran out, or a file can't be read or written
abbrev pub IsOfDevice : Fault → Type 0
IsOfDevice fault = (fault ≡ Memory) ⊎ (fault ≡ Image Device)

-- nothing was put, for a reason; or bytes of which this holds were made and could not be put, and all other files are as before
abbrev pub IsUnput : Contents → Contents → Text → (List ℕ → Type 0) → (Fault → Type 0) → Fault → Type 0
IsUnput old new name Is Why fault = (SameFiles old new × Why fault) ⊎ (IsOfDevice fault × SameOthers old new name × ((bytes : List ℕ) × Is bytes))

-- the bytes are no text, or the text of a plan file that is refused
abbrev pub IsFileFault : Algorithm → List ℕ → Fault → Type 0
IsFileFault a bytes fault = IsOfDevice fault ⊎ IsFileRefused a bytes fault

-- there is a file of that name, and it is the file of a plan of the algorithm that the checker accepts
abbrev pub HasPlanFile : Contents → Text → Algorithm → Type 0
HasPlanFile files name a = (bytes : List ℕ) × Holds files name bytes × HasPlan a bytes

-- why it is none
abbrev pub IsPlanFault : Contents → Text → Algorithm → Fault → Type 0
IsPlanFault files name a fault = IsOfDevice fault ⊎ ((bytes : List ℕ) × Holds files name bytes × IsFileFault a bytes fault)

-- how many stores the pieces of a plan make, of all functions together; a number above the greatest of 64 bits is that
abbrev pub stores_told : Algorithm → Plan → Certificate → ℕ
stores_told a p c = all_stores (rows a p c)

-- so many are no more than there may be, if that is bounded
abbrev pub IsWithin : Option ℕ → ℕ → Type 0
IsWithin None n = ⊤
IsWithin (Some most) n = n ≤ most

-- they are more; want of memory says nothing
abbrev pub IsTooDear : Option ℕ → ℕ → Fault → Type 0
IsTooDear most n Memory = ⊤
IsTooDear (Some most) n Budget = most < n
IsTooDear most n _ = ⊥

-- there is a file of that name, and it is the file of a plan that the checker accepts and of which this holds, by its stores
pub record HasPlanWith (files : Contents) (name : Text) (a : Algorithm) (P : ℕ → Type 0) : Type 0 where
  pub bytes : List ℕ
  pub plan : PlanMade
  pub cert : Cert
  pub holds : Holds files name bytes
  pub accepted : IsAccepted a bytes plan cert
  pub stores : P (stores_told a (plan_of plan) (certificate_of cert))

-- an algorithm's picture can be computed this way: by a file where it is that of a plan that the checker accepts, and that makes
-- no more stores than it may
abbrev pub IsReady : Contents → AskedWay → Algorithm → Type 0
IsReady files (Plain most) a = ⊤
IsReady files (File name n most) a = HasPlanWith files name a (IsWithin most)

-- why it can't
abbrev pub IsUnready : Contents → AskedWay → Algorithm → Fault → Type 0
IsUnready files (Plain most) a fault = ⊥
IsUnready files (File name n most) a fault = IsPlanFault files name a fault ⊎ HasPlanWith files name a (λ stores. IsTooDear most stores fault)

-- each pixel took as many evaluations as it may or fewer; of a plan's stores `IsReady` speaks
abbrev pub IsAffordable : AskedWay → Algorithm → List ℕ → Type 0
IsAffordable (Plain most) a samples = AllWithin a samples most
IsAffordable (File name n most) a samples = ⊤

-- why it was not computed: some pixel takes too many evaluations; by the plan of a file there is no reason but want of memory,
-- and with more workers than one that a piece was left unfinished
abbrev pub IsStopped : AskedWay → Algorithm → List ℕ → Fault → Type 0
IsStopped (Plain most) a samples fault = IsBudgetSpent a samples most fault
IsStopped (File name n most) a samples fault = fault ≡ Memory

-- ---- what is done

-- the bytes are the image file of the picture that the algorithm of one file says of the image of another
pub record IsPicture (files : Contents) (a : AskedPicture) (bytes : List ℕ) : Type 0 where
  pub text : List ℕ
  pub algorithm : Algorithm
  pub image : List ℕ
  pub samples : List ℕ
  pub holds_text : Holds files a.algorithm text
  pub is_text : IsAlgorithmText text algorithm
  pub ready : IsReady files a.way algorithm
  pub holds_image : Holds files a.input image
  pub is_image : reading (wanted_of (input_frame algorithm)) image ≡ Ok samples
  pub affordable : IsAffordable a.way algorithm samples
  pub whole : bytes ≡ text_of (picture_said algorithm samples)

-- the picture was put, and nothing else
abbrev pub IsDone : Contents → Contents → AskedPicture → Type 0
IsDone old new a = (bytes : List ℕ) × IsPicture old a bytes × Puts old new a.output bytes

-- ---- why something is refused

-- the bytes are no text, or a text that is refused
abbrev pub IsTextFault : List ℕ → Fault → Type 0
IsTextFault bytes fault = IsOfDevice fault ⊎ IsTextRefused bytes fault

-- the bytes are no image file of this type and these extents
abbrev pub IsImageFault : Frame → List ℕ → Fault → Type 0
IsImageFault frame bytes fault = (rest : Option (List ℕ)) × IsImageRefused frame (Some bytes) rest fault

-- the algorithm's text is refused
pub record TextRefused (files : Contents) (a : AskedPicture) (fault : Fault) : Type 0 where
  pub text : List ℕ
  pub holds_text : Holds files a.algorithm text
  pub refused : IsTextFault text fault

-- the algorithm's picture can't be computed this way
pub record PlanRefused (files : Contents) (a : AskedPicture) (fault : Fault) : Type 0 where
  pub text : List ℕ
  pub algorithm : Algorithm
  pub holds_text : Holds files a.algorithm text
  pub is_text : IsAlgorithmText text algorithm
  pub refused : IsUnready files a.way algorithm fault

-- it can, and the image is refused
pub record ImageRefused (files : Contents) (a : AskedPicture) (fault : Fault) : Type 0 where
  pub text : List ℕ
  pub algorithm : Algorithm
  pub image : List ℕ
  pub holds_text : Holds files a.algorithm text
  pub is_text : IsAlgorithmText text algorithm
  pub ready : IsReady files a.way algorithm
  pub holds_image : Holds files a.input image
  pub refused : IsImageFault (input_frame algorithm) image fault

-- the text and the image are accepted, and the picture was not computed
pub record PictureRefused (files : Contents) (a : AskedPicture) (fault : Fault) : Type 0 where
  pub text : List ℕ
  pub algorithm : Algorithm
  pub image : List ℕ
  pub samples : List ℕ
  pub holds_text : Holds files a.algorithm text
  pub is_text : IsAlgorithmText text algorithm
  pub holds_image : Holds files a.input image
  pub is_image : reading (wanted_of (input_frame algorithm)) image ≡ Ok samples
  pub refused : IsStopped a.way algorithm samples fault

-- why nothing was put
abbrev pub IsReason : Contents → AskedPicture → Fault → Type 0
IsReason files a fault =
    IsOfDevice fault ⊎ (TextRefused files a fault ⊎ (PlanRefused files a fault ⊎ (ImageRefused files a fault ⊎ PictureRefused files a fault)))

-- the picture was computed, and it could not be put
abbrev pub IsNotPut : Contents → Contents → AskedPicture → Fault → Type 0
IsNotPut old new a fault = IsOfDevice fault × SameOthers old new a.output × ((bytes : List ℕ) × IsPicture old a bytes)

-- nothing was put, for a reason; or all else had succeeded, and all files but the output are as before
abbrev pub IsRefused : Contents → Contents → AskedPicture → Fault → Type 0
IsRefused old new a fault = (SameFiles old new × IsReason old a fault) ⊎ IsNotPut old new a fault

-- ---- how two pictures compare

-- the samples before this place are the same, and at it they are not, or one list has ended
abbrev pub IsFirstDifference : ℕ → List ℕ → List ℕ → Type 0
IsFirstDifference place xs ys = (take place xs ≡ take place ys) × (slice_get xs place ≢ slice_get ys place)
