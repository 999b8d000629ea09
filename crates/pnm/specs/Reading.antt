-- What a file's bytes are, read one after another: each of them leads on, gives a sample or is a fault.
use Rattle.std.specs.Prelude.{ℕ, zero, suc, ◌+◌, ◌-◌, ◌*◌, List, [], ◌∷◌, ◌++◌, fold, Bool, true, false, ◌&&◌, ◌==◌, nat_le, nat_lt, if◌then◌else◌, None, Some, Option, Result, Ok, Err}
use Rattle.meaning.specs.Image.View.{Frame, max_sample}
use Rattle.meaning.specs.Image.Raster.{sample_count}
use Rattle.pnm.specs.declared.error.PnmError.{PnmError}
use Rattle.pnm.specs.declared.error.PnmError.TheVariants as fault
use Rattle.pnm.specs.declared.state.Form.{Form}
use Rattle.pnm.specs.declared.state.Form.TheVariants.{Raw, Plain}
use Rattle.pnm.specs.declared.state.Field.{Field}
use Rattle.pnm.specs.declared.state.Field.TheVariants.{Width, Height, Max}
use Rattle.pnm.specs.declared.state.Wanted.{Wanted}
use Rattle.pnm.specs.declared.state.State.{State}
use Rattle.pnm.specs.declared.state.State.TheVariants.{Start, Letter, Magic, Gap, Comment, Number, First, Second, Between, Digits, Done}
use Rattle.pnm.specs.declared.state.Step.{Step}
use Rattle.pnm.specs.declared.state.Step.TheVariants.{Next, Sample, Fault}
use Rattle.pnm.specs.Bytes.{is_space, ends_comment, is_digit, grown}

-- one row is an image of height 1
abbrev pub width_of : List ℕ → ℕ
width_of [] = 1
width_of (w ∷ es) = w

abbrev pub height_of : List ℕ → ℕ
height_of (w ∷ h ∷ es) = h
height_of _ = 1

abbrev pub has_colours : List ℕ → Bool
has_colours (w ∷ h ∷ c ∷ es) = true
has_colours _ = false

-- what the file of an image of this shape has to say
abbrev pub wanted_of : Frame → Wanted
wanted_of f = record { has_colours = has_colours f.extents; width = width_of f.extents; height = height_of f.extents; max_sample = max_sample f.ty; count = sample_count f.extents }

-- the form of the raster that the magic's second byte names
abbrev pub form_of : Bool → ℕ → Option Form
form_of true b = if b == 54 then Some Raw else if b == 51 then Some Plain else None
form_of false b = if b == 53 then Some Raw else if b == 50 then Some Plain else None

abbrev pub after_magic : Option Form → Step
after_magic None = Fault fault.Magic
after_magic (Some form) = Next (Magic form)

-- an item of a gap begins
abbrev pub item : Form → Field → ℕ → Step
item form field b = if is_space b then Next (Gap form field) else if b == 35 then Next (Comment form field) else Fault fault.Malformed

-- the raster begins
abbrev pub raster : Form → ℕ → ℕ → State
raster Raw max count = First max count
raster Plain max count = Between max count

-- whether the header's numbers are those of the wanted image
abbrev pub is_wanted : Wanted → ℕ → ℕ → ℕ → Bool
is_wanted w width height max = (width == w.width) && (height == w.height) && nat_le max w.max_sample

-- a byte that is no digit follows a number of the header
abbrev pub after_number : Wanted → Form → Field → ℕ → ℕ → Step
after_number w form Width n b = item form (Height n) b
after_number w form (Height width) n b = item form (Max width n) b
after_number w form (Max width height) n b =
    if is_space b && nat_le 1 n && nat_le n 65535
    then (if is_wanted w width height n then Next (raster form n w.count) else Fault fault.OtherImage)
    else Fault fault.Malformed

-- what comes after a sample, where `left` counts that sample too
abbrev pub after_sample : Form → ℕ → ℕ → State
after_sample form max left = if nat_le left 1 then Done form else raster form max (left - 1)

-- a sample of a raw raster
abbrev pub raw_sample : ℕ → ℕ → ℕ → Step
raw_sample max left n = if nat_le n max then Sample n (after_sample Raw max left) else Fault fault.AboveMax

-- a byte of a plain raster, where no digits of a sample stand before it
abbrev pub between : ℕ → ℕ → ℕ → Step
between max left b = if is_space b then Next (Between max left) else if is_digit b then Next (Digits max left (b - 48)) else Fault fault.Malformed

-- a byte that is no digit follows a sample of a plain raster
abbrev pub after_digits : ℕ → ℕ → ℕ → ℕ → Step
after_digits max left n b =
    if nat_le n max
    then (if is_space b then Sample n (after_sample Plain max left) else if nat_le left 1 then Fault fault.Trailing else Fault fault.Malformed)
    else Fault fault.AboveMax

-- a byte follows the last sample
abbrev pub after_last : Form → ℕ → Step
after_last Raw b = Fault fault.Trailing
after_last Plain b = if is_space b then Next (Done Plain) else Fault fault.Trailing

abbrev pub step : Wanted → State → ℕ → Step
step w Start b = if b == 80 then Next Letter else Fault fault.Magic
step w Letter b = after_magic (form_of w.has_colours b)
step w (Magic form) b = item form Width b
step w (Gap form field) b = if is_digit b then Next (Number form field (b - 48)) else item form field b
step w (Comment form field) b = if ends_comment b then Next (Gap form field) else Next (Comment form field)
step w (Number form field n) b = if is_digit b then Next (Number form field (grown n b)) else after_number w form field n b
step w (First max left) b = if nat_lt max 256 then raw_sample max left b else Next (Second max left b)
step w (Second max left high) b = raw_sample max left (high * 256 + b)
step w (Between max left) b = between max left b
step w (Digits max left n) b = if is_digit b then Next (Digits max left (grown n b)) else after_digits max left n b
step w (Done form) b = after_last form b

-- the end of the file: it may end the last sample of a plain raster
abbrev pub finish : State → Result (Option ℕ) PnmError
finish Start = Err fault.Magic
finish Letter = Err fault.Magic
finish (Digits max left n) = if nat_le n max then (if nat_le left 1 then Ok (Some n) else Err fault.TooShort) else Err fault.AboveMax
finish (Done form) = Ok None
finish _ = Err fault.TooShort

-- how far the bytes lead: on, with the samples so far, or to a fault
pub data Walk : Type 0 where
  Going : State → List ℕ → Walk
  Stopped : PnmError → Walk

abbrev pub taken : Step → List ℕ → Walk
taken (Next s) samples = Going s samples
taken (Sample n s) samples = Going s (samples ++ n ∷ [])
taken (Fault e) samples = Stopped e

abbrev pub onward : Wanted → Walk → ℕ → Walk
onward w (Going s samples) b = taken (step w s b) samples
onward w (Stopped e) b = Stopped e

abbrev pub walk : Wanted → List ℕ → Walk
walk w bytes = fold (onward w) (Going Start []) bytes

-- what stands before the next byte of a raw raster in which each byte is a sample, where so many samples are still to come
abbrev pub in_raster : ℕ → State
in_raster zero = Done Raw
in_raster (suc left) = First 255 (suc left)

abbrev pub with_last : List ℕ → Result (Option ℕ) PnmError → Result (List ℕ) PnmError
with_last samples (Ok None) = Ok samples
with_last samples (Ok (Some n)) = Ok (samples ++ n ∷ [])
with_last samples (Err e) = Err e

abbrev pub closed : Walk → Result (List ℕ) PnmError
closed (Going s samples) = with_last samples (finish s)
closed (Stopped e) = Err e

-- the samples of the file with these bytes, or its first fault in reading order
abbrev pub reading : Wanted → List ℕ → Result (List ℕ) PnmError
reading w bytes = closed (walk w bytes)
