-- What is read as the file of an image has the image's number of samples, each within the type.
use Rattle.std.proofs.Common.{◌≡◌, ℕ, ◌+◌, ◌-◌, ◌*◌, ◌≤◌, List, [], ◌∷◌, ◌++◌, fold, length, ◌&&◌, ◌==◌, nat_le, nat_lt, if◌then◌else◌, Option, None, Some, Result, Ok, Err, All, refl, sym, subst, arith, length-append}
use Rattle.std.proofs.lemmas.Bool.{cond_both, and_parts, leb-true, leb-false}
use Rattle.std.proofs.lemmas.List.Elements.{All-nil, All-push}
use Rattle.pnm.specs.declared.error.PnmError.{PnmError}
use Rattle.pnm.specs.declared.error.PnmError.TheVariants as fault
use Rattle.pnm.specs.declared.state.Form.{Form}
use Rattle.pnm.specs.declared.state.Form.TheVariants.{Raw, Plain}
use Rattle.pnm.specs.declared.state.Field.{Field}
use Rattle.pnm.specs.declared.state.Field.TheVariants.{Width, Height, Max}
use Rattle.pnm.specs.declared.state.Wanted.{Wanted}
use Rattle.pnm.specs.declared.state.State.{State}
use Rattle.pnm.specs.declared.state.State.TheVariants.{Start, Letter, Magic, Gap, Comment, Number, First, Second, Between, Digits, Done}
use Rattle.pnm.specs.declared.state.Step.{Step}
use Rattle.pnm.specs.declared.state.Step.TheVariants.{Next, Sample, Fault}
use Rattle.pnm.specs.Bytes.{is_space, ends_comment, is_digit, grown}
use Rattle.pnm.specs.Reading.{step, finish, item, form_of, after_magic, after_number, after_sample, after_digits, after_last, raw_sample, raster, is_wanted, Walk, Going, Stopped, taken, onward, walk, with_last, closed, wanted_of}
use Rattle.pnm.proofs.Written.{bounds}
use Rattle.commands.specs.Pipeline.Images.{ReadImagesFit}

-- the samples of a raster so far, where so many are still to come
record IsPart (w : Wanted) (samples : List ℕ) (max left : ℕ) : Type 0 where
  most : max ≤ w.max_sample
  some : 1 ≤ left
  count : length samples + left ≡ w.count
  range : All (λ n. n ≤ w.max_sample) samples

-- all samples of a raster
record IsWhole (w : Wanted) (samples : List ℕ) : Type 0 where
  count : length samples ≡ w.count
  range : All (λ n. n ≤ w.max_sample) samples

-- the samples that were read before a state
abbrev Fits : Wanted → List ℕ → State → Type 0
Fits w samples (First max left) = IsPart w samples max left
Fits w samples (Second max left high) = IsPart w samples max left
Fits w samples (Between max left) = IsPart w samples max left
Fits w samples (Digits max left n) = IsPart w samples max left
Fits w samples (Done form) = IsWhole w samples
Fits w samples Start = samples ≡ []
Fits w samples Letter = samples ≡ []
Fits w samples (Magic form) = samples ≡ []
Fits w samples (Gap form field) = samples ≡ []
Fits w samples (Comment form field) = samples ≡ []
Fits w samples (Number form field n) = samples ≡ []

abbrev StepFits : Wanted → List ℕ → Step → Type 0
StepFits w samples (Next s) = Fits w samples s
StepFits w samples (Sample n s) = Fits w (samples ++ n ∷ []) s
StepFits w samples (Fault e) = Unit {0}

abbrev WalkFits : Wanted → Walk → Type 0
WalkFits w (Going s samples) = Fits w samples s
WalkFits w (Stopped e) = Unit {0}

-- ---- the header

item_fits : (w : Wanted) (samples : List ℕ) (form : Form) (field : Field) (b : ℕ) → samples ≡ [] → StepFits w samples (item form field b)
item_fits w samples form field b h =
    cond_both (is_space b) (Next (Gap form field)) (if b == 35 then Next (Comment form field) else Fault fault.Malformed) (StepFits w samples) (λ _. h)
    (λ _. cond_both (b == 35) (Next (Comment form field)) (Fault fault.Malformed) (StepFits w samples) (λ _. h) (λ _. tt))

magic_fits : (w : Wanted) (samples : List ℕ) (o : Option Form) → samples ≡ [] → StepFits w samples (after_magic o)
magic_fits w samples None h = tt
magic_fits w samples (Some form) h = h

raster_fits : (w : Wanted) (samples : List ℕ) (form : Form) (max left : ℕ) → IsPart w samples max left → Fits w samples (raster form max left)
raster_fits w samples Raw max left h = h
raster_fits w samples Plain max left h = h

begins : (w : Wanted) (samples : List ℕ) (max : ℕ) → 1 ≤ w.count → max ≤ w.max_sample → samples ≡ [] → IsPart w samples max w.count
begins w samples max some most h = subst (λ all. IsPart w all max w.count) (sym h) (record { most = most; some = some; count = omega arith; range = All-nil (λ n. n ≤ w.max_sample) })

number_fits : (w : Wanted) (samples : List ℕ) (form : Form) (field : Field) (n b : ℕ) → 1 ≤ w.count → samples ≡ [] → StepFits w samples (after_number w form field n b)
number_fits w samples form Width n b some h = item_fits w samples form (Height n) b h
number_fits w samples form (Height width) n b some h = item_fits w samples form (Max width n) b h
number_fits w samples form (Max width height) n b some h =
    let goes_on = if is_wanted w width height n then Next (raster form n w.count) else Fault fault.OtherImage in
    cond_both (is_space b && nat_le 1 n && nat_le n 65535) goes_on (Fault fault.Malformed) (StepFits w samples)
    (λ _. cond_both (is_wanted w width height n) (Next (raster form n w.count)) (Fault fault.OtherImage) (StepFits w samples)
    (λ e. raster_fits w samples form n w.count (begins w samples n some (leb-true n w.max_sample (and_parts ((width == w.width) && (height == w.height)) (nat_le n w.max_sample) e).1) h))
    (λ _. tt))
    (λ _. tt)

-- ---- the raster

one_more : (w : Wanted) (samples : List ℕ) (n : ℕ) → n ≤ w.max_sample → All (λ k. k ≤ w.max_sample) samples → All (λ k. k ≤ w.max_sample) (samples ++ n ∷ [])
one_more w samples n h all = All-push (λ k. k ≤ w.max_sample) samples n all h

sample_fits : (w : Wanted) (samples : List ℕ) (form : Form) (max left n : ℕ) → n ≤ max → IsPart w samples max left → Fits w (samples ++ n ∷ []) (after_sample form max left)
sample_fits w samples form max left n h part =
    let most = part.most in
    let some = part.some in
    let count = part.count in
    let range = one_more w samples n (omega arith) part.range in
    let longer : length (samples ++ n ∷ []) ≡ length samples + 1 = length-append samples (n ∷ []) in
    cond_both (nat_le left 1) (Done form) (raster form max (left - 1)) (Fits w (samples ++ n ∷ []))
    (λ e. let last = leb-true left 1 e in record { count = omega arith; range = range })
    (λ e. let more = leb-false left 1 e in raster_fits w (samples ++ n ∷ []) form max (left - 1) (record { most = most; some = omega arith; count = omega arith; range = range }))

raw_fits : (w : Wanted) (samples : List ℕ) (max left n : ℕ) → IsPart w samples max left → StepFits w samples (raw_sample max left n)
raw_fits w samples max left n part =
    cond_both (nat_le n max) (Sample n (after_sample Raw max left)) (Fault fault.AboveMax) (StepFits w samples)
    (λ e. sample_fits w samples Raw max left n (leb-true n max e) part) (λ _. tt)

digits_fit : (w : Wanted) (samples : List ℕ) (max left n b : ℕ) → IsPart w samples max left → StepFits w samples (after_digits max left n b)
digits_fit w samples max left n b part =
    let faulty = if nat_le left 1 then Fault fault.Trailing else Fault fault.Malformed in
    cond_both (nat_le n max) (if is_space b then Sample n (after_sample Plain max left) else faulty) (Fault fault.AboveMax) (StepFits w samples)
    (λ e. cond_both (is_space b) (Sample n (after_sample Plain max left)) faulty (StepFits w samples)
    (λ _. sample_fits w samples Plain max left n (leb-true n max e) part)
    (λ _. cond_both (nat_le left 1) (Fault fault.Trailing) (Fault fault.Malformed) (StepFits w samples) (λ _. tt) (λ _. tt)))
    (λ _. tt)

last_fits : (w : Wanted) (samples : List ℕ) (form : Form) (b : ℕ) → IsWhole w samples → StepFits w samples (after_last form b)
last_fits w samples Raw b h = tt
last_fits w samples Plain b h = cond_both (is_space b) (Next (Done Plain)) (Fault fault.Trailing) (StepFits w samples) (λ _. h) (λ _. tt)

-- ---- the file

step_fits : (w : Wanted) (samples : List ℕ) (s : State) (b : ℕ) → 1 ≤ w.count → Fits w samples s → StepFits w samples (step w s b)
step_fits w samples Start b some h = cond_both (b == 80) (Next Letter) (Fault fault.Magic) (StepFits w samples) (λ _. h) (λ _. tt)
step_fits w samples Letter b some h = magic_fits w samples (form_of w.has_colours b) h
step_fits w samples (Magic form) b some h = item_fits w samples form Width b h
step_fits w samples (Gap form field) b some h =
    cond_both (is_digit b) (Next (Number form field (b - 48))) (item form field b) (StepFits w samples) (λ _. h) (λ _. item_fits w samples form field b h)
step_fits w samples (Comment form field) b some h =
    cond_both (ends_comment b) (Next (Gap form field)) (Next (Comment form field)) (StepFits w samples) (λ _. h) (λ _. h)
step_fits w samples (Number form field n) b some h =
    cond_both (is_digit b) (Next (Number form field (grown n b))) (after_number w form field n b) (StepFits w samples) (λ _. h) (λ _. number_fits w samples form field n b some h)
step_fits w samples (First max left) b some h =
    cond_both (nat_lt max 256) (raw_sample max left b) (Next (Second max left b)) (StepFits w samples) (λ _. raw_fits w samples max left b h) (λ _. h)
step_fits w samples (Second max left high) b some h = raw_fits w samples max left (high * 256 + b) h
step_fits w samples (Between max left) b some h =
    let digits = if is_digit b then Next (Digits max left (b - 48)) else Fault fault.Malformed in
    cond_both (is_space b) (Next (Between max left)) digits (StepFits w samples) (λ _. h)
    (λ _. cond_both (is_digit b) (Next (Digits max left (b - 48))) (Fault fault.Malformed) (StepFits w samples) (λ _. h) (λ _. tt))
step_fits w samples (Digits max left n) b some h =
    cond_both (is_digit b) (Next (Digits max left (grown n b))) (after_digits max left n b) (StepFits w samples) (λ _. h) (λ _. digits_fit w samples max left n b h)
step_fits w samples (Done form) b some h = last_fits w samples form b h

taken_fits : (w : Wanted) (samples : List ℕ) (r : Step) → StepFits w samples r → WalkFits w (taken r samples)
taken_fits w samples (Next s) h = h
taken_fits w samples (Sample n s) h = h
taken_fits w samples (Fault e) h = tt

onward_fits : (w : Wanted) (so_far : Walk) (b : ℕ) → 1 ≤ w.count → WalkFits w so_far → WalkFits w (onward w so_far b)
onward_fits w (Going s samples) b some h = taken_fits w samples (step w s b) (step_fits w samples s b some h)
onward_fits w (Stopped e) b some h = tt

walk_fits : (w : Wanted) (so_far : Walk) (bytes : List ℕ) → 1 ≤ w.count → WalkFits w so_far → WalkFits w (fold (onward w) so_far bytes)
walk_fits w so_far [] some h = h
walk_fits w so_far (b ∷ bytes) some h = walk_fits w (onward w so_far b) bytes some (onward_fits w so_far b some h)

no_file : (P : Type 0) (e : PnmError) (all : List ℕ) → ◌≡◌ {A = Result (List ℕ) PnmError} (Err e) (Ok all) → P
no_file P e all h = absurd cc

whole_is : (w : Wanted) (samples all : List ℕ) → IsWhole w samples → ◌≡◌ {A = Result (List ℕ) PnmError} (Ok samples) (Ok all) → IsWhole w all
whole_is w samples all h e = let same : samples ≡ all = cc in subst (IsWhole w) same h

-- what the end of the file gives
abbrev Gives : Wanted → List ℕ → List ℕ → Result (Option ℕ) PnmError → Type 0
Gives w samples all r = with_last samples r ≡ Ok all → IsWhole w all

state_ends : (w : Wanted) (samples all : List ℕ) (s : State) → Fits w samples s → with_last samples (finish s) ≡ Ok all → IsWhole w all
state_ends w samples all Start h e = no_file (IsWhole w all) fault.Magic all e
state_ends w samples all Letter h e = no_file (IsWhole w all) fault.Magic all e
state_ends w samples all (Magic form) h e = no_file (IsWhole w all) fault.TooShort all e
state_ends w samples all (Gap form field) h e = no_file (IsWhole w all) fault.TooShort all e
state_ends w samples all (Comment form field) h e = no_file (IsWhole w all) fault.TooShort all e
state_ends w samples all (Number form field n) h e = no_file (IsWhole w all) fault.TooShort all e
state_ends w samples all (First max left) h e = no_file (IsWhole w all) fault.TooShort all e
state_ends w samples all (Second max left high) h e = no_file (IsWhole w all) fault.TooShort all e
state_ends w samples all (Between max left) h e = no_file (IsWhole w all) fault.TooShort all e
state_ends w samples all (Done form) h e = whole_is w samples all h e
state_ends w samples all (Digits max left n) h e =
    let most = h.most in
    let some = h.some in
    let count = h.count in
    let last = if nat_le left 1 then Ok (Some n) else Err fault.TooShort in
    let longer : length (samples ++ n ∷ []) ≡ length samples + 1 = length-append samples (n ∷ []) in
    cond_both (nat_le n max) last (Err fault.AboveMax) (Gives w samples all)
    (λ f. let fits = leb-true n max f in
    cond_both (nat_le left 1) (Ok (Some n)) (Err fault.TooShort) (Gives w samples all)
    (λ g. let one = leb-true left 1 g in
    whole_is w (samples ++ n ∷ []) all (record { count = omega arith; range = one_more w samples n (omega arith) h.range }))
    (λ _. no_file (IsWhole w all) fault.TooShort all))
    (λ _. no_file (IsWhole w all) fault.AboveMax all)
    e

walk_ends : (w : Wanted) (all : List ℕ) (so_far : Walk) → WalkFits w so_far → closed so_far ≡ Ok all → IsWhole w all
walk_ends w all (Going s samples) h e = state_ends w samples all s h e
walk_ends w all (Stopped fault) h e = no_file (IsWhole w all) fault all e

pub read_images_fit : ReadImagesFit
read_images_fit f bytes samples shape h =
    let w = wanted_of f in
    let some = (bounds f.extents shape.extents).count in
    let whole = walk_ends w samples (walk w bytes) (walk_fits w (Going Start []) bytes (omega arith) refl) h in
    (whole.count, whole.range)
