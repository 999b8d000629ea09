-- A byte or the end of a file never answers want of memory or a reader that fails.
use Rattle.std.proofs.Common.{◌≡◌, ℕ, ◌+◌, ◌*◌, List, Bool, true, false, ◌&&◌, ◌==◌, nat_le, nat_lt, if◌then◌else◌, Option, None, Some, Result, Ok, Err, subst}
use Rattle.pnm.specs.declared.error.PnmError.{PnmError}
use Rattle.pnm.specs.declared.state.Form.{Form}
use Rattle.pnm.specs.declared.state.Form.TheVariants.{Raw, Plain}
use Rattle.pnm.specs.declared.state.Field.{Field}
use Rattle.pnm.specs.declared.state.Field.TheVariants.{Width, Height, Max}
use Rattle.pnm.specs.declared.state.Wanted.{Wanted}
use Rattle.pnm.specs.declared.state.State.{State}
use Rattle.pnm.specs.declared.state.State.TheVariants.{Start, Letter, Magic, Gap, Comment, Number, First, Second, Between, Digits, Done}
use Rattle.pnm.specs.declared.state.Step.{Step}
use Rattle.pnm.specs.declared.state.Step.TheVariants.{Next, Sample, Fault}
use Rattle.pnm.specs.Bytes.{is_space, ends_comment, is_digit}
use Rattle.pnm.specs.Reading.{step, finish, item, form_of, after_magic, after_number, after_last, raw_sample, is_wanted, taken, with_last, Stopped}
use Rattle.pnm.specs.Source.{IsFault}

-- where the step is a fault, it is one of a file
abbrev IsFine : Step → Type 0
IsFine (Next s) = Unit {0}
IsFine (Sample n s) = Unit {0}
IsFine (Fault e) = IsFault e

fine_if : (b : Bool) (x y : Step) → IsFine x → IsFine y → IsFine (if b then x else y)
fine_if true x y h g = h
fine_if false x y h g = g

fine_item : (form : Form) (field : Field) (b : ℕ) → IsFine (item form field b)
fine_item form field b = fine_if (is_space b) _ _ tt (fine_if (b == 35) _ _ tt tt)

fine_magic : (o : Option Form) → IsFine (after_magic o)
fine_magic None = tt
fine_magic (Some f) = tt

fine_number : (w : Wanted) (form : Form) (field : Field) (n b : ℕ) → IsFine (after_number w form field n b)
fine_number w form Width n b = fine_item form (Height n) b
fine_number w form (Height v) n b = fine_item form (Max v n) b
fine_number w form (Max v h) n b = fine_if (is_space b && nat_le 1 n && nat_le n 65535) _ _ (fine_if (is_wanted w v h n) _ _ tt tt) tt

fine_raw : (max left n : ℕ) → IsFine (raw_sample max left n)
fine_raw max left n = fine_if (nat_le n max) _ _ tt tt

fine_last : (form : Form) (b : ℕ) → IsFine (after_last form b)
fine_last Raw b = tt
fine_last Plain b = fine_if (is_space b) _ _ tt tt

fine_step : (w : Wanted) (s : State) (b : ℕ) → IsFine (step w s b)
fine_step w Start b = fine_if (b == 80) _ _ tt tt
fine_step w Letter b = fine_magic (form_of w.has_colours b)
fine_step w (Magic form) b = fine_item form Width b
fine_step w (Gap form field) b = fine_if (is_digit b) _ _ tt (fine_item form field b)
fine_step w (Comment form field) b = fine_if (ends_comment b) _ _ tt tt
fine_step w (Number form field n) b = fine_if (is_digit b) _ _ tt (fine_number w form field n b)
fine_step w (First max left) b = fine_if (nat_lt max 256) _ _ (fine_raw max left b) tt
fine_step w (Second max left high) b = fine_raw max left (high * 256 + b)
fine_step w (Between max left) b = fine_if (is_space b) _ _ tt (fine_if (is_digit b) _ _ tt tt)
fine_step w (Digits max left n) b = fine_if (is_digit b) _ _ tt (fine_if (nat_le n max) _ _ (fine_if (is_space b) _ _ tt (fine_if (nat_le left 1) _ _ tt tt)) tt)
fine_step w (Done form) b = fine_last form b

fault_of : (s : Step) (samples : List ℕ) (e : PnmError) → IsFine s → taken s samples ≡ Stopped e → IsFault e
fault_of (Next s) samples e h g = cc
fault_of (Sample n s) samples e h g = cc
fault_of (Fault d) samples e h g = let same : d ≡ e = cc in subst IsFault same h

pub stopped_by_byte : (w : Wanted) (s : State) (b : ℕ) (samples : List ℕ) (e : PnmError) → taken (step w s b) samples ≡ Stopped e → IsFault e
stopped_by_byte w s b samples e h = fault_of (step w s b) samples e (fine_step w s b) h

abbrev IsFineEnd : Result (Option ℕ) PnmError → Type 0
IsFineEnd (Ok o) = Unit {0}
IsFineEnd (Err e) = IsFault e

fine_end_if : (b : Bool) (x y : Result (Option ℕ) PnmError) → IsFineEnd x → IsFineEnd y → IsFineEnd (if b then x else y)
fine_end_if true x y h g = h
fine_end_if false x y h g = g

fine_finish : (s : State) → IsFineEnd (finish s)
fine_finish Start = tt
fine_finish Letter = tt
fine_finish (Magic form) = tt
fine_finish (Gap form field) = tt
fine_finish (Comment form field) = tt
fine_finish (Number form field n) = tt
fine_finish (First max left) = tt
fine_finish (Second max left high) = tt
fine_finish (Between max left) = tt
fine_finish (Digits max left n) = fine_end_if (nat_le n max) _ _ (fine_end_if (nat_le left 1) _ _ tt tt) tt
fine_finish (Done form) = tt

fault_of_end : (r : Result (Option ℕ) PnmError) (samples : List ℕ) (e : PnmError) → IsFineEnd r → with_last samples r ≡ Err e → IsFault e
fault_of_end (Ok None) samples e h g = cc
fault_of_end (Ok (Some n)) samples e h g = cc
fault_of_end (Err d) samples e h g = let same : d ≡ e = cc in subst IsFault same h

pub stopped_by_end : (s : State) (samples : List ℕ) (e : PnmError) → with_last samples (finish s) ≡ Err e → IsFault e
stopped_by_end s samples e h = fault_of_end (finish s) samples e (fine_finish s) h
