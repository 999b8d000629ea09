-- What a reader has given and what a writer has taken, in terms of the bytes that they have left or hold, where those are known.
use Rattle.std.specs.Prelude.{◌≡◌, ◌⊎◌, ℕ, ◌^◌, ◌-◌, ◌<◌, List, [], ◌∷◌, ◌++◌, Option, None, Some, Result, Ok, Err, fold, length, take}
use Rattle.std.specs.Io.KnownBytes.{Consumes, Keeps, IsAtEnd, Appends}
use Rattle.pnm.specs.declared.error.PnmError.{PnmError}
use Rattle.pnm.specs.declared.error.PnmError.TheVariants.{Device, Memory, TooShort}
use Rattle.pnm.specs.declared.state.Wanted.{Wanted}
use Rattle.pnm.specs.declared.state.State.{State}
use Rattle.pnm.specs.Reading.{Going, Stopped, onward, walk, reading}

-- one look at what a reader has left: a byte was taken, or the end was found, or the reader failed and kept its bytes
abbrev pub LooksOnce : Option (List ℕ) → Option (List ℕ) → Result (Option ℕ) PnmError → Type 0
LooksOnce old new (Ok (Some b)) = Consumes old new (b ∷ [])
LooksOnce old new (Ok None) = Keeps old new × IsAtEnd new
LooksOnce old new (Err e) = Keeps old new × (e ≡ Device)

-- one read of many bytes: so many of these were taken, none only at the end or with no place, or the reader failed and kept its bytes
abbrev pub Fills : Option (List ℕ) → Option (List ℕ) → List ℕ → Result ℕ PnmError → Type 0
Fills old new out (Ok n) = Consumes old new (take n out) × (n ≡ 0 → 0 < length out → IsAtEnd new)
Fills old new out (Err e) = Keeps old new × (e ≡ Device)

-- a fault of a file, apart from want of memory and a reader that fails
abbrev pub IsFault : PnmError → Type 0
IsFault Device = ⊥
IsFault Memory = ⊥
IsFault _ = Unit {0}

-- the reader gave bytes that lead from one state on to another, whatever image is wanted
pub record LeadsOn (old new : Option (List ℕ)) (s : State) (samples : List ℕ) (t : State) (more : List ℕ) : Type 0 where
  pub bytes : List ℕ
  pub takes : Consumes old new bytes
  pub leads : (w : Wanted) → fold (onward w) (Going s samples) bytes ≡ Going t more

-- where a reader stands after a part of a raster in which nothing can be a fault but the end
abbrev pub EndsPart : Option (List ℕ) → Option (List ℕ) → PnmError → Type 0
EndsPart old new Device = Keeps old new
EndsPart old new Memory = (bytes : List ℕ) × Consumes old new bytes
EndsPart old new TooShort = Keeps old new × IsAtEnd new
EndsPart old new e = ⊥

-- the bytes are the beginning of a file, and no fault stands in them
pub record IsOpen (w : Wanted) (bytes : List ℕ) : Type 0 where
  pub state : State
  pub samples : List ℕ
  pub leads : walk w bytes ≡ Going state samples

-- the bytes up to the last of them are the beginning of a file, and the last is the fault
pub record EndsInFault (w : Wanted) (bytes : List ℕ) (e : PnmError) : Type 0 where
  pub before : List ℕ
  pub last : ℕ
  pub whole : bytes ≡ before ++ last ∷ []
  pub fine : IsOpen w before
  pub stops : walk w bytes ≡ Stopped e

-- the reader gave all its bytes, and they are the file of an image with these samples
pub record ReadsFile (w : Wanted) (old new : Option (List ℕ)) (samples : List ℕ) : Type 0 where
  pub bytes : List ℕ
  pub takes : Consumes old new bytes
  pub end : IsAtEnd new
  pub file : reading w bytes ≡ Ok samples

-- the reader gave the bytes up to the first fault, which is the last of them or the end
pub record StopsAtFault (w : Wanted) (old new : Option (List ℕ)) (e : PnmError) : Type 0 where
  pub bytes : List ℕ
  pub takes : Consumes old new bytes
  pub first : EndsInFault w bytes e ⊎ (IsAtEnd new × IsOpen w bytes × (reading w bytes ≡ Err e))

-- the reader gave a beginning of a file without a fault
pub record StopsOpen (w : Wanted) (old new : Option (List ℕ)) : Type 0 where
  pub bytes : List ℕ
  pub takes : Consumes old new bytes
  pub fine : IsOpen w bytes

-- the reader gave some of its bytes
abbrev pub StopsSomewhere : Option (List ℕ) → Option (List ℕ) → Type 0
StopsSomewhere old new = (bytes : List ℕ) × Consumes old new bytes

-- where a reader stands after a refusal
abbrev pub Refuses : Wanted → Option (List ℕ) → Option (List ℕ) → PnmError → Type 0
Refuses w old new Device = StopsOpen w old new
Refuses w old new Memory = StopsSomewhere old new
Refuses w old new e = StopsAtFault w old new e

-- the reader gave more bytes than a program can read in its life
abbrev pub IsEndless : Option (List ℕ) → Option (List ℕ) → Type 0
IsEndless old new = (bytes : List ℕ) × Consumes old new bytes × (length bytes ≡ 2 ^ 64 - 1)

-- a writer took the bytes, or, at an error, a beginning of them and nothing else
abbrev pub Sends : Option (List ℕ) → Option (List ℕ) → List ℕ → Result (Unit {0}) PnmError → Type 0
Sends old new bytes (Ok _) = Appends old new bytes
Sends old new bytes (Err e) = (e ≡ Device) × (sent : List ℕ) × (rest : List ℕ) × (bytes ≡ sent ++ rest) × (0 < length rest) × Appends old new sent
