-- What the command that writes the algorithm of a tile does to the files.
use Rattle.std.specs.Prelude.{◌≡◌, ◌⊎◌, ℕ, List, ⊤}
use Rattle.meaning.specs.Algorithm.{Algorithm}
use Rattle.crop.specs.declared.cropping.Rect.{Rect}
use Rattle.crop.specs.declared.cut.Stretch.{Stretch}
use Rattle.algo.specs.declared.error.AlgoError.TheVariants.{Refused}
use Rattle.crop.specs.declared.scene_error.SceneError.{SceneError}
use Rattle.crop.specs.declared.scene_error.SceneError.TheVariants.{Text, Reduction}
use Rattle.crop.specs.Inside.{IsInside}
use Rattle.crop.specs.Scene.{IsNoScene, IsRefusedScene, IsSceneText}
use Rattle.crop.specs.Tile.{IsTileOf}
use Rattle.commands.specs.declared.pipeline.fault.Fault.{Fault}
use Rattle.commands.specs.declared.pipeline.fault.Fault.TheVariants.{Memory, Algo, Outside, Uncut}
use Rattle.commands.specs.Asked.{AskedCrop}
use Rattle.commands.specs.Files.{Contents, Holds, IsPut, Puts, SameFiles, SameOthers}
use Rattle.commands.specs.Formats.{IsCanonical}
use Rattle.commands.specs.Pictures.{IsOfDevice, IsUnput}

-- ---- the algorithm's text

-- the text is no algorithm, the limit of its extents aside, for the reason that the error names
abbrev pub IsRefusedFor : List ℕ → SceneError → Type 0
IsRefusedFor text e = IsRefusedScene text e × IsNoScene text e

-- it is none for the reason that the refusal names; want of memory says nothing
abbrev pub IsSceneRefused : List ℕ → Fault → Type 0
IsSceneRefused text Memory = ⊤
IsSceneRefused text (Algo code span) = IsRefusedFor text (Text (Refused code span))
IsSceneRefused text (Uncut name) = IsRefusedFor text (Reduction name)
IsSceneRefused text _ = ⊥

-- or the bytes are no text
abbrev pub IsSceneFault : List ℕ → Fault → Type 0
IsSceneFault bytes fault = IsOfDevice fault ⊎ IsSceneRefused bytes fault

-- the text of the file of this name is the algorithm `a`
pub record IsSceneFile (files : Contents) (name : List ℕ) (a : Algorithm) : Type 0 where
  pub text : List ℕ
  pub holds_text : Holds files name text
  pub is_text : IsSceneText text a

-- ---- the tile

-- the bytes are the canonical text of the algorithm of the tile of `a` at the rectangle, and `part` is the part of the input that it reads
pub record IsTileText (a : Algorithm) (rect : Rect) (part : List Stretch) (bytes : List ℕ) : Type 0 where
  pub tile : Algorithm
  pub is_tile : IsTileOf a rect tile part
  pub canonical : IsCanonical tile bytes

-- memory ran out, or a limit is passed
abbrev pub IsPastLimit : Fault → Type 0
IsPastLimit Memory = ⊤
IsPastLimit (Uncut name) = ⊤
IsPastLimit _ = ⊥

-- why there is none: want of memory or C2, and C1 only where the rectangle is empty or leaves the output
abbrev pub IsUncut : Algorithm → Rect → Fault → Type 0
IsUncut a rect fault = IsPastLimit fault ⊎ ((fault ≡ Outside) × (IsInside a.output_extents rect → ⊥))

-- ---- what is done

-- the bytes are the text of the tile of the file's algorithm
pub record IsCropped (files : Contents) (a : AskedCrop) (bytes : List ℕ) : Type 0 where
  pub algorithm : Algorithm
  pub part : List Stretch
  pub file : IsSceneFile files a.algorithm algorithm
  pub tile : IsTileText algorithm a.rect part bytes

-- the text was put, and nothing else
abbrev pub IsDone : Contents → Contents → AskedCrop → Type 0
IsDone old new a = (bytes : List ℕ) × IsCropped old a bytes × Puts old new a.output bytes

-- ---- why something is refused

-- the algorithm's text is refused
pub record TextRefused (files : Contents) (algorithm : List ℕ) (fault : Fault) : Type 0 where
  pub text : List ℕ
  pub holds_text : Holds files algorithm text
  pub refused : IsSceneFault text fault

-- it is accepted, and the algorithm is not cut for this reason
pub record CutRefused (files : Contents) (name : List ℕ) (Refuses : Algorithm → Type 0) : Type 0 where
  pub algorithm : Algorithm
  pub file : IsSceneFile files name algorithm
  pub refused : Refuses algorithm

-- why nothing was put
abbrev pub IsReason : Contents → List ℕ → (Algorithm → Type 0) → Fault → Type 0
IsReason files name Refuses fault = IsOfDevice fault ⊎ (TextRefused files name fault ⊎ CutRefused files name Refuses)

-- the text was made, and could not be put
abbrev pub IsNotPut : Contents → Contents → AskedCrop → Fault → Type 0
IsNotPut old new a fault = IsOfDevice fault × SameOthers old new a.output × ((bytes : List ℕ) × IsCropped old a bytes)

-- nothing was put, for a reason; or all else had succeeded, and all files but the text are as before
abbrev pub IsRefused : Contents → Contents → AskedCrop → Fault → Type 0
IsRefused old new a fault = (SameFiles old new × IsReason old a.algorithm (λ x. IsUncut x a.rect fault) fault) ⊎ IsNotPut old new a fault

-- ---- of an algorithm that was read

-- the bytes are the text of its tile at the rectangle
abbrev pub IsTileFile : Algorithm → Rect → List ℕ → Type 0
IsTileFile a rect bytes = (part : List Stretch) × IsTileText a rect part bytes

-- the text was put, and nothing else
abbrev pub IsTilePut : Contents → Contents → AskedCrop → Algorithm → Type 0
IsTilePut old new a x = IsPut old new a.output (IsTileFile x a.rect)

-- why it was not put, and what stands then
abbrev pub IsTileUnput : Contents → Contents → AskedCrop → Algorithm → Fault → Type 0
IsTileUnput old new a x fault = IsUnput old new a.output (IsTileFile x a.rect) (λ fault. IsOfDevice fault ⊎ IsUncut x a.rect fault) fault
