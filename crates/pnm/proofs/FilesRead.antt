-- What the grammar calls a file is read.
use Rattle.std.proofs.Common.{◌≡◌, ℕ, ◌+◌, ◌-◌, ◌*◌, ◌/◌, ◌%◌, ◌^◌, ◌<◌, ◌≤◌, min, List, [], ◌∷◌, ◌++◌, fold, length, Bool, true, false, not, nat_le, nat_lt, if◌then◌else◌, Ok, refl, sym, ap, ◌∙◌, arith, append_assoc}
use Rattle.std.specs.List.{flat_map}
use Rattle.std.proofs.lemmas.Bool.{eq-eqb, le-leb}
use Rattle.std.proofs.lemmas.Bool.Decides.{nat_tests}
use Rattle.std.proofs.lemmas.Nat.{div-add-mod'}
use Rattle.pnm.specs.declared.state.Form.{Form}
use Rattle.pnm.specs.declared.state.Form.TheVariants.{Raw, Plain}
use Rattle.pnm.specs.declared.state.Field.{Field}
use Rattle.pnm.specs.declared.state.Field.TheVariants.{Width, Height, Max}
use Rattle.pnm.specs.declared.state.Wanted.{Wanted}
use Rattle.pnm.specs.declared.state.State.{State}
use Rattle.pnm.specs.declared.state.State.TheVariants.{Start, Letter, Magic, Gap, Comment, Number, First, Second, Between, Digits, Done}
use Rattle.pnm.specs.declared.state.Step.TheVariants.{Next, Sample}
use Rattle.pnm.specs.Bytes.{is_space, ends_comment, is_digit, grown}
use Rattle.pnm.specs.Reading.{step, onward, taken, closed, item, form_of, after_magic, after_sample, raw_sample, raster, reading, Walk, Going}
use Rattle.pnm.specs.Grammar.{Each, IsNumber, Items, none, space, comment, raw_bytes, UpTo, PlainRaster, last, more, IsRaster, second_byte, IsFile}

-- a byte that passes one test fails another
pub no_digit : (b : ℕ) → is_space b ≡ true → is_digit b ≡ false
no_digit b h = grind (arith, nat_tests)

pub no_space : (b : ℕ) → is_digit b ≡ true → is_space b ≡ false
no_space b h = grind (arith, nat_tests)

pub digit_below : (b : ℕ) → is_digit b ≡ true → b - 48 < 10
digit_below b h = grind (arith, nat_tests)

-- the walk from a state on
abbrev pub onto : Wanted → State → List ℕ → List ℕ → Walk
onto w s samples bytes = fold (onward w) (Going s samples) bytes

-- the state that a step leads to
pub steps_on : (w : Wanted) (s t : State) (samples : List ℕ) (b : ℕ) (rest : List ℕ) → step w s b ≡ Next t → onto w s samples (b ∷ rest) ≡ onto w t samples rest
steps_on w s t samples b rest h = ap (λ r. fold (onward w) (taken r samples) rest) h

pub gives_on : (w : Wanted) (s t : State) (samples : List ℕ) (n b : ℕ) (rest : List ℕ) → step w s b ≡ Sample n t → onto w s samples (b ∷ rest) ≡ onto w t (samples ++ n ∷ []) rest
gives_on w s t samples n b rest h = ap (λ r. fold (onward w) (taken r samples) rest) h

item_of_space : (form : Form) (field : Field) (b : ℕ) → is_space b ≡ true → item form field b ≡ Next (Gap form field)
item_of_space form field b h = rw h refl

pub gap_item : (w : Wanted) (form : Form) (field : Field) (b : ℕ) → is_digit b ≡ false → step w (Gap form field) b ≡ item form field b
gap_item w form field b h = rw h refl

-- the text of a comment, and the byte that ends it
comment_read : (w : Wanted) (form : Form) (field : Field) (samples text : List ℕ) (b : ℕ) (rest : List ℕ) → Each (λ c. not (ends_comment c)) text → ends_comment b ≡ true
    → onto w (Comment form field) samples (text ++ b ∷ rest) ≡ onto w (Gap form field) samples rest
comment_read w form field samples [] b rest h e =
    let go : step w (Comment form field) b ≡ Next (Gap form field) = rw e refl in
    steps_on w (Comment form field) (Gap form field) samples b rest go
comment_read w form field samples (c ∷ text) b rest h e =
    let open_still : ends_comment c ≡ false = by (ends_comment c) h.0 in
    let go : step w (Comment form field) c ≡ Next (Comment form field) = rw open_still refl in
    steps_on w (Comment form field) (Comment form field) samples c (text ++ b ∷ rest) go ∙ comment_read w form field samples text b rest h.1 e
  where
    by : (t : Bool) → not t ≡ true → t ≡ false
    by true k = cc
    by false k = refl

-- a comment as an item of a gap
comment_item : (w : Wanted) (form : Form) (field : Field) (samples text : List ℕ) (b : ℕ) (tail rest : List ℕ) → Each (λ c. not (ends_comment c)) text → ends_comment b ≡ true
    → onto w (Comment form field) samples ((text ++ b ∷ tail) ++ rest) ≡ onto w (Gap form field) samples (tail ++ rest)
comment_item w form field samples text b tail rest h e =
    ap (λ bytes. onto w (Comment form field) samples bytes) (append_assoc text (b ∷ tail) rest) ∙ comment_read w form field samples text b (tail ++ rest) h e

-- the further items of a gap
items_read : (w : Wanted) (form : Form) (field : Field) (samples : List ℕ) {gap : List ℕ} → Items gap → (rest : List ℕ) → onto w (Gap form field) samples (gap ++ rest) ≡ onto w (Gap form field) samples rest
items_read w form field samples none rest = refl
items_read w form field samples (space {b} {rest = tail} h r) rest =
    steps_on w (Gap form field) (Gap form field) samples b (tail ++ rest) (gap_item w form field b (no_digit b h) ∙ item_of_space form field b h) ∙ items_read w form field samples r rest
items_read w form field samples (comment text b tail h e r) rest =
    comment_item w form field samples text b tail rest h e ∙ items_read w form field samples r rest

-- a gap after a state that takes its first item
gap_read : (w : Wanted) (s : State) (form : Form) (field : Field) (samples : List ℕ) {gap : List ℕ} → ((b : ℕ) → is_digit b ≡ false → step w s b ≡ item form field b)
    → Items gap → 0 < length gap → (rest : List ℕ) → onto w s samples (gap ++ rest) ≡ onto w (Gap form field) samples rest
gap_read w s form field samples first none some rest = absurd (omega arith)
gap_read w s form field samples first (space {b} {rest = tail} h r) some rest =
    steps_on w s (Gap form field) samples b (tail ++ rest) (first b (no_digit b h) ∙ item_of_space form field b h) ∙ items_read w form field samples r rest
gap_read w s form field samples first (comment text b tail h e r) some rest =
    steps_on w s (Comment form field) samples 35 ((text ++ b ∷ tail) ++ rest) (first 35 refl)
    ∙ (comment_item w form field samples text b tail rest h e ∙ items_read w form field samples r rest)

-- numbers of a header are kept up to a bound
abbrev pub kept : ℕ → ℕ
kept n = min n (2 ^ 32 - 1)

pub grown_kept : (n b : ℕ) → grown (kept n) b ≡ kept (n * 10 + (b - 48))
grown_kept n b = omega arith

digits_read : (w : Wanted) (form : Form) (field : Field) (samples digits : List ℕ) (n : ℕ) (rest : List ℕ) → Each is_digit digits
    → onto w (Number form field (kept n)) samples (digits ++ rest) ≡ onto w (Number form field (kept (fold (λ m b. m * 10 + (b - 48)) n digits))) samples rest
digits_read w form field samples [] n rest h = refl
digits_read w form field samples (b ∷ digits) n rest h =
    let digit = h.0 in
    let go : step w (Number form field (kept n)) b ≡ Next (Number form field (grown (kept n) b)) = rw digit refl in
    steps_on w (Number form field (kept n)) (Number form field (grown (kept n) b)) samples b (digits ++ rest) go
    ∙ (ap (λ m. onto w (Number form field m) samples (digits ++ rest)) (grown_kept n b) ∙ digits_read w form field samples digits (n * 10 + (b - 48)) rest h.1)

small_kept : (n : ℕ) → n ≤ 2 ^ 32 - 1 → kept n ≡ n
small_kept n h = omega arith

number_read : (w : Wanted) (form : Form) (field : Field) (samples digits : List ℕ) (n : ℕ) (rest : List ℕ) → IsNumber n digits → n ≤ 2 ^ 32 - 1
    → onto w (Gap form field) samples (digits ++ rest) ≡ onto w (Number form field n) samples rest
number_read w form field samples [] n rest h small = absurd (let some = h.some in omega arith)
number_read w form field samples (b ∷ digits) n rest h small =
    let digit = h.each.0 in
    let go : step w (Gap form field) b ≡ Next (Number form field (b - 48)) = rw digit refl in
    let low = digit_below b digit in
    let first : b - 48 ≡ kept (0 * 10 + (b - 48)) = omega arith in
    steps_on w (Gap form field) (Number form field (b - 48)) samples b (digits ++ rest) go
    ∙ (ap (λ m. onto w (Number form field m) samples (digits ++ rest)) first
    ∙ (digits_read w form field samples digits (0 * 10 + (b - 48)) rest h.each.1
    ∙ ap (λ m. onto w (Number form field m) samples rest) (ap kept h.value ∙ small_kept n small)))

-- a raw raster
raw_step : (max left n : ℕ) → n ≤ max → raw_sample max left n ≡ Sample n (after_sample Raw max left)
raw_step max left n h = let yes = le-leb n max h in rw yes refl

raw_one : (w : Wanted) (max left n : ℕ) (samples rest : List ℕ) → n ≤ max
    → onto w (First max left) samples (raw_bytes max n ++ rest) ≡ onto w (after_sample Raw max left) (samples ++ n ∷ []) rest
raw_one w max left n samples rest h = by (nat_lt max 256) refl
  where
    by : (t : Bool) → nat_lt max 256 ≡ t → onto w (First max left) samples ((if t then n ∷ [] else n / 256 ∷ n % 256 ∷ []) ++ rest) ≡ onto w (after_sample Raw max left) (samples ++ n ∷ []) rest
    by true e =
        let go : step w (First max left) n ≡ raw_sample max left n = rw e refl in
        gives_on w (First max left) (after_sample Raw max left) samples n n rest (go ∙ raw_step max left n h)
    by false e =
        let go : step w (First max left) (n / 256) ≡ Next (Second max left (n / 256)) = rw e refl in
        let whole : step w (Second max left (n / 256)) (n % 256) ≡ raw_sample max left n = ap (raw_sample max left) (div-add-mod' n 256) in
        steps_on w (First max left) (Second max left (n / 256)) samples (n / 256) (n % 256 ∷ rest) go
        ∙ gives_on w (Second max left (n / 256)) (after_sample Raw max left) samples n (n % 256) rest (whole ∙ raw_step max left n h)

raw_read : (w : Wanted) (max : ℕ) (n : ℕ) (others before : List ℕ) → UpTo max (n ∷ others)
    → closed (onto w (First max (length (n ∷ others))) before (flat_map (raw_bytes max) (n ∷ others))) ≡ Ok (before ++ n ∷ others)
raw_read w max n [] before h = ap closed (raw_one w max 1 n before [] h.0)
raw_read w max n (m ∷ others) before h =
    let left = length (n ∷ m ∷ others) in
    let not_last : nat_le left 1 ≡ false = grind (arith, nat_tests) in
    let less : left - 1 ≡ length (m ∷ others) = omega arith in
    let next : after_sample Raw max left ≡ First max (length (m ∷ others)) = rw not_last (ap (λ k. First max k) less) in
    ap closed (raw_one w max left n before (flat_map (raw_bytes max) (m ∷ others)) h.0)
    ∙ (ap (λ s. closed (onto w s (before ++ n ∷ []) (flat_map (raw_bytes max) (m ∷ others)))) next
    ∙ (raw_read w max m others (before ++ n ∷ []) h.1 ∙ ap Ok (append_assoc before (n ∷ []) (m ∷ others))))

-- a plain raster
spaces_read : (w : Wanted) (max left : ℕ) (samples before rest : List ℕ) → Each is_space before → onto w (Between max left) samples (before ++ rest) ≡ onto w (Between max left) samples rest
spaces_read w max left samples [] rest h = refl
spaces_read w max left samples (b ∷ before) rest h =
    let white = h.0 in
    let go : step w (Between max left) b ≡ Next (Between max left) = rw white refl in
    steps_on w (Between max left) (Between max left) samples b (before ++ rest) go ∙ spaces_read w max left samples before rest h.1

sample_digits_read : (w : Wanted) (max left : ℕ) (samples digits : List ℕ) (n : ℕ) (rest : List ℕ) → Each is_digit digits
    → onto w (Digits max left (kept n)) samples (digits ++ rest) ≡ onto w (Digits max left (kept (fold (λ m b. m * 10 + (b - 48)) n digits))) samples rest
sample_digits_read w max left samples [] n rest h = refl
sample_digits_read w max left samples (b ∷ digits) n rest h =
    let digit = h.0 in
    let go : step w (Digits max left (kept n)) b ≡ Next (Digits max left (grown (kept n) b)) = rw digit refl in
    steps_on w (Digits max left (kept n)) (Digits max left (grown (kept n) b)) samples b (digits ++ rest) go
    ∙ (ap (λ m. onto w (Digits max left m) samples (digits ++ rest)) (grown_kept n b) ∙ sample_digits_read w max left samples digits (n * 10 + (b - 48)) rest h.1)

sample_number_read : (w : Wanted) (max left : ℕ) (samples digits : List ℕ) (n : ℕ) (rest : List ℕ) → IsNumber n digits → n ≤ 2 ^ 32 - 1
    → onto w (Between max left) samples (digits ++ rest) ≡ onto w (Digits max left n) samples rest
sample_number_read w max left samples [] n rest h small = absurd (let some = h.some in omega arith)
sample_number_read w max left samples (b ∷ digits) n rest h small =
    let digit = h.each.0 in
    let black = no_space b digit in
    let go : step w (Between max left) b ≡ Next (Digits max left (b - 48)) = rw (black, digit) refl in
    let low = digit_below b digit in
    let first : b - 48 ≡ kept (0 * 10 + (b - 48)) = omega arith in
    steps_on w (Between max left) (Digits max left (b - 48)) samples b (digits ++ rest) go
    ∙ (ap (λ m. onto w (Digits max left m) samples (digits ++ rest)) first
    ∙ (sample_digits_read w max left samples digits (0 * 10 + (b - 48)) rest h.each.1
    ∙ ap (λ m. onto w (Digits max left m) samples rest) (ap kept h.value ∙ small_kept n small)))

digits_end : (w : Wanted) (max left n b : ℕ) → n ≤ max → is_space b ≡ true → step w (Digits max left n) b ≡ Sample n (after_sample Plain max left)
digits_end w max left n b h white = let black = no_digit b white in let fits = le-leb n max h in rw (black, fits, white) refl

spaces_end : (w : Wanted) (samples after : List ℕ) → Each is_space after → closed (onto w (Done Plain) samples after) ≡ Ok samples
spaces_end w samples [] h = refl
spaces_end w samples (b ∷ after) h =
    let white = h.0 in
    let go : step w (Done Plain) b ≡ Next (Done Plain) = rw white refl in
    ap closed (steps_on w (Done Plain) (Done Plain) samples b after go) ∙ spaces_end w samples after h.1

last_sample_end : (w : Wanted) (max n : ℕ) (samples after : List ℕ) → n ≤ max → Each is_space after → closed (onto w (Digits max 1 n) samples after) ≡ Ok (samples ++ n ∷ [])
last_sample_end w max n samples [] h white = let fits = le-leb n max h in rw fits refl
last_sample_end w max n samples (b ∷ after) h white =
    ap closed (gives_on w (Digits max 1 n) (Done Plain) samples n b after (digits_end w max 1 n b h white.0)) ∙ spaces_end w (samples ++ n ∷ []) after white.1

plain_some : {max : ℕ} {samples bytes : List ℕ} → PlainRaster max samples bytes → 0 < length samples
plain_some (last before digits after h g l a) = omega arith
plain_some (more before digits b rest h g l white r) = omega arith

plain_read : (w : Wanted) {max : ℕ} {samples bytes : List ℕ} → PlainRaster max samples bytes → max ≤ 65535 → (gone : List ℕ) → closed (onto w (Between max (length samples)) gone bytes) ≡ Ok (gone ++ samples)
plain_read w (last {max} {n} before digits after h g l a) small gone =
    ap closed (spaces_read w max 1 gone before (digits ++ after) h ∙ sample_number_read w max 1 gone digits n after g (omega arith)) ∙ last_sample_end w max n gone after l a
plain_read w (more {max} {n} {samples} before digits b rest h g l white r) small gone =
    let left = length (n ∷ samples) in
    let some = plain_some r in
    let not_last : nat_le left 1 ≡ false = grind (arith, nat_tests) in
    let less : left - 1 ≡ length samples = omega arith in
    let next : after_sample Plain max left ≡ Between max (length samples) = rw not_last (ap (λ k. Between max k) less) in
    ap closed (spaces_read w max left gone before (digits ++ b ∷ rest) h
    ∙ (sample_number_read w max left gone digits n (b ∷ rest) g (omega arith)
    ∙ (gives_on w (Digits max left n) (after_sample Plain max left) gone n b rest (digits_end w max left n b l white)
    ∙ ap (λ s. onto w s (gone ++ n ∷ []) rest) next)))
    ∙ (plain_read w r small (gone ++ n ∷ []) ∙ ap Ok (append_assoc gone (n ∷ []) samples))

raster_read : (w : Wanted) (form : Form) (max : ℕ) (samples bytes : List ℕ) → max ≤ 65535 → 0 < length samples → IsRaster form max samples bytes
    → closed (onto w (raster form max (length samples)) [] bytes) ≡ Ok samples
raster_read w Raw max [] bytes small some h = absurd (omega arith)
raster_read w Raw max (n ∷ samples) bytes small some h = ap (λ bs. closed (onto w (First max (length (n ∷ samples))) [] bs)) h.1 ∙ raw_read w max n samples [] h.0
raster_read w Plain max samples bytes small some h = plain_read w h small []

-- the header
letter_read : (c : Bool) (form : Form) → after_magic (form_of c (second_byte c form)) ≡ Next (Magic form)
letter_read true Raw = refl
letter_read true Plain = refl
letter_read false Raw = refl
letter_read false Plain = refl

pub number_item : (w : Wanted) (form : Form) (n b : ℕ) → is_digit b ≡ false → step w (Number form Width n) b ≡ item form (Height n) b
number_item w form n b h = rw h refl

pub height_item : (w : Wanted) (form : Form) (width n b : ℕ) → is_digit b ≡ false → step w (Number form (Height width) n) b ≡ item form (Max width n) b
height_item w form width n b h = rw h refl

max_end : (w : Wanted) (form : Form) (n b : ℕ) → is_space b ≡ true → 1 ≤ n → n ≤ 65535 → n ≤ w.max_sample → step w (Number form (Max w.width w.height) n) b ≡ Next (raster form n w.count)
max_end w form n b white least most fits =
    let black = no_digit b white in
    let a = le-leb 1 n least in
    let z = le-leb n 65535 most in
    let t = le-leb n w.max_sample fits in
    let x = eq-eqb w.width w.width refl in
    let y = eq-eqb w.height w.height refl in
    rw (black, white, a, z, x, y, t) refl

-- a file of the grammar is read
pub file_read : (w : Wanted) (bytes samples : List ℕ) → 0 < w.count → w.width ≤ 2 ^ 32 - 1 → w.height ≤ 2 ^ 32 - 1 → IsFile w bytes samples → reading w bytes ≡ Ok samples
file_read w bytes samples some wide high f =
    let end = f.greatest ++ f.space ∷ f.raster in
    let to_height = f.before_max ++ end in
    let to_gap = f.height ++ to_height in
    let to_width = f.before_height ++ to_gap in
    let numbers = f.width ++ to_width in
    let all = f.before_width ++ numbers in
    let form = f.form in
    let last_state = raster form f.max w.count in
    ap (λ bs. closed (onto w Start [] bs)) f.whole
    ∙ (ap closed (
    steps_on w Letter (Magic form) [] (second_byte w.has_colours form) all (letter_read w.has_colours form)
    ∙ (gap_read w (Magic form) form Width [] (λ b h. refl) f.first_gap.items f.first_gap.some numbers
    ∙ (number_read w form Width [] f.width w.width to_width f.is_width wide
    ∙ (gap_read w (Number form Width w.width) form (Height w.width) [] (number_item w form w.width) f.second_gap.items f.second_gap.some to_gap
    ∙ (number_read w form (Height w.width) [] f.height w.height to_height f.is_height high
    ∙ (gap_read w (Number form (Height w.width) w.height) form (Max w.width w.height) [] (height_item w form w.width w.height) f.third_gap.items f.third_gap.some end
    ∙ (number_read w form (Max w.width w.height) [] f.greatest f.max (f.space ∷ f.raster) f.is_max (let most = f.most in omega arith)
    ∙ steps_on w (Number form (Max w.width w.height) f.max) last_state [] f.space f.raster (max_end w form f.max f.space f.after_max f.least f.most f.in_type))))))))
    ∙ (ap (λ k. closed (onto w (raster form f.max k) [] f.raster)) (sym f.count)
    ∙ raster_read w form f.max samples f.raster f.most (let count = f.count in omega arith) f.is_raster))
