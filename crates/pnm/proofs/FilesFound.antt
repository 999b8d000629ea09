-- What is read is a file of the grammar.
use Rattle.std.proofs.Common.{◌≡◌, ℕ, ◌+◌, ◌-◌, ◌*◌, ◌^◌, ◌<◌, ◌≤◌, List, [], ◌∷◌, ◌++◌, fold, length, Bool, true, false, ◌&&◌, ◌==◌, not, nat_le, nat_lt, None, Some, Ok, refl, sym, ap, ◌∙◌, subst, inl, inr, ◌⊎◌, arith, append_assoc}
use Rattle.std.proofs.lemmas.Bool.{eqb-true, leb-true}
use Rattle.pnm.specs.declared.error.PnmError.TheVariants as fault
use Rattle.pnm.specs.declared.state.Form.{Form}
use Rattle.pnm.specs.declared.state.Form.TheVariants.{Raw, Plain}
use Rattle.pnm.specs.declared.state.Field.{Field}
use Rattle.pnm.specs.declared.state.Field.TheVariants.{Width, Height, Max}
use Rattle.pnm.specs.declared.state.Wanted.{Wanted}
use Rattle.pnm.specs.declared.state.State.{State}
use Rattle.pnm.specs.declared.state.State.TheVariants.{Start, Letter, Magic, Gap, Comment, Number}
use Rattle.pnm.specs.declared.state.Step.{Step}
use Rattle.pnm.specs.declared.state.Step.TheVariants.{Next, Fault}
use Rattle.pnm.specs.Bytes.{is_space, ends_comment, is_digit}
use Rattle.pnm.specs.Reading.{step, onward, closed, item, form_of, after_magic, is_wanted, taken, raster, reading, wanted_of}
use Rattle.pnm.specs.Grammar.{Each, number_of, IsNumber, Items, none, space, comment, IsGap, second_byte, IsRaster, IsFile}
use Rattle.pnm.specs.Laws.{ReadFilesAreFiles}
use Rattle.pnm.proofs.FilesRead.{kept, grown_kept, digit_below, gap_item, number_item, height_item}
use Rattle.pnm.proofs.RastersFound.{Ends, AreBytes, no_file, faulted, stepped, raster_found}
use Rattle.pnm.proofs.Written.{bounds}

-- the rest of a file whose next byte ends a number
abbrev Continues : Wanted → Step → List ℕ → List ℕ → Type 0
Continues w s rest all = closed (fold (onward w) (taken s []) rest) ≡ Ok all

-- items of a gap, and then the first digit of a number
record GapFound (w : Wanted) (form : Form) (field : Field) (bytes all : List ℕ) : Type 0 where
  gap : List ℕ
  digit : ℕ
  rest : List ℕ
  whole : bytes ≡ gap ++ digit ∷ rest
  items : Items gap
  is : is_digit digit ≡ true
  ends : Ends w (Number form field (digit - 48)) [] rest all

-- the text of a comment with its end, and then that
record CommentFound (w : Wanted) (form : Form) (field : Field) (bytes all : List ℕ) : Type 0 where
  text : List ℕ
  stop : ℕ
  rest : List ℕ
  whole : bytes ≡ text ++ stop ∷ rest
  each : Each (λ c. not (ends_comment c)) text
  is : ends_comment stop ≡ true
  later : GapFound w form field rest all

record HeaderFound (w : Wanted) (form : Form) (field : Field) (bytes all : List ℕ) : Type 0 where
  in_gap : Ends w (Gap form field) [] bytes all → GapFound w form field bytes all
  in_comment : Ends w (Comment form field) [] bytes all → CommentFound w form field bytes all

-- a byte that begins an item, and the gap after it
record ItemFound (w : Wanted) (form : Form) (field : Field) (bytes all : List ℕ) : Type 0 where
  found : GapFound w form field bytes all
  some : 0 < length found.gap

item_found : (w : Wanted) (s : State) (form : Form) (field : Field) (b : ℕ) (rest all : List ℕ) → HeaderFound w form field rest all → step w s b ≡ item form field b → Ends w s [] (b ∷ rest) all → ItemFound w form field (b ∷ rest) all
item_found w s form field b rest all later first h = by (is_space b) refl (b == 35) refl
  where
    by : (t : Bool) → is_space b ≡ t → (u : Bool) → (b == 35) ≡ u → ItemFound w form field (b ∷ rest) all
    by true white u e =
        let begins : item form field b ≡ Next (Gap form field) = rw white refl in
        let f = later.in_gap (stepped w s (Gap form field) [] b rest all (first ∙ begins) h) in
        record {
          found = record { gap = b ∷ f.gap; digit = f.digit; rest = f.rest; whole = ap (λ bytes. b ∷ bytes) f.whole; items = space white f.items; is = f.is; ends = f.ends };
          some = omega arith;
        }
    by false dark true e =
        let begins : item form field b ≡ Next (Comment form field) = rw (dark, e) refl in
        let c = later.in_comment (stepped w s (Comment form field) [] b rest all (first ∙ begins) h) in
        let f = c.later in
        let joined : rest ≡ (c.text ++ c.stop ∷ f.gap) ++ f.digit ∷ f.rest = c.whole ∙ (ap (λ bytes. c.text ++ c.stop ∷ bytes) f.whole ∙ sym (append_assoc c.text (c.stop ∷ f.gap) (f.digit ∷ f.rest))) in
        record {
          found = record {
            gap = 35 ∷ (c.text ++ c.stop ∷ f.gap);
            digit = f.digit;
            rest = f.rest;
            whole = (λ i. eqb-true b 35 e i ∷ joined i);
            items = comment c.text c.stop f.gap c.each c.is f.items;
            is = f.is;
            ends = f.ends;
          };
          some = omega arith;
        }
    by false dark false e =
        let begins : item form field b ≡ Fault fault.Malformed = rw (dark, e) refl in
        absurd (faulted w s [] b rest all fault.Malformed (first ∙ begins) h)

gap_more : (w : Wanted) (form : Form) (field : Field) (b : ℕ) (rest all : List ℕ) → HeaderFound w form field rest all → Ends w (Gap form field) [] (b ∷ rest) all → GapFound w form field (b ∷ rest) all
gap_more w form field b rest all later h = by (is_digit b) refl
  where
    by : (t : Bool) → is_digit b ≡ t → GapFound w form field (b ∷ rest) all
    by true d =
        let go : step w (Gap form field) b ≡ Next (Number form field (b - 48)) = rw d refl in
        record { gap = []; digit = b; rest = rest; whole = refl; items = none; is = d; ends = stepped w (Gap form field) (Number form field (b - 48)) [] b rest all go h }
    by false d = (item_found w (Gap form field) form field b rest all later (gap_item w form field b d) h).found

comment_more : (w : Wanted) (form : Form) (field : Field) (b : ℕ) (rest all : List ℕ) → HeaderFound w form field rest all → Ends w (Comment form field) [] (b ∷ rest) all → CommentFound w form field (b ∷ rest) all
comment_more w form field b rest all later h = by (ends_comment b) refl
  where
    by : (t : Bool) → ends_comment b ≡ t → CommentFound w form field (b ∷ rest) all
    by true e =
        let go : step w (Comment form field) b ≡ Next (Gap form field) = rw e refl in
        record { text = []; stop = b; rest = rest; whole = refl; each = tt; is = e; later = later.in_gap (stepped w (Comment form field) (Gap form field) [] b rest all go h) }
    by false e =
        let go : step w (Comment form field) b ≡ Next (Comment form field) = rw e refl in
        let c = later.in_comment (stepped w (Comment form field) (Comment form field) [] b rest all go h) in
        record { text = b ∷ c.text; stop = c.stop; rest = c.rest; whole = ap (λ bytes. b ∷ bytes) c.whole; each = (ap not e, c.each); is = c.is; later = c.later }

header_found : (w : Wanted) (form : Form) (field : Field) (bytes all : List ℕ) → HeaderFound w form field bytes all
header_found w form field [] all = record { in_gap = λ h. absurd (no_file fault.TooShort all h); in_comment = λ h. absurd (no_file fault.TooShort all h) }
header_found w form field (b ∷ rest) all =
    let later = header_found w form field rest all in
    record { in_gap = gap_more w form field b rest all later; in_comment = comment_more w form field b rest all later }

-- the digits of a number, and the byte after them
record DigitsFound (w : Wanted) (form : Form) (field : Field) (n : ℕ) (bytes all : List ℕ) : Type 0 where
  digits : List ℕ
  stop : ℕ
  rest : List ℕ
  whole : bytes ≡ digits ++ stop ∷ rest
  each : Each is_digit digits
  no_more : is_digit stop ≡ false
  ends : Ends w (Number form field (kept (fold (λ m b. m * 10 + (b - 48)) n digits))) [] (stop ∷ rest) all

digits_found : (w : Wanted) (form : Form) (field : Field) (n : ℕ) (bytes all : List ℕ) → Ends w (Number form field (kept n)) [] bytes all → DigitsFound w form field n bytes all
digits_found w form field n [] all h = absurd (no_file fault.TooShort all h)
digits_found w form field n (b ∷ rest) all h = by (is_digit b) refl (λ g. digits_found w form field (n * 10 + (b - 48)) rest all g)
  where
    by : (t : Bool) → is_digit b ≡ t → (Ends w (Number form field (kept (n * 10 + (b - 48)))) [] rest all → DigitsFound w form field (n * 10 + (b - 48)) rest all) → DigitsFound w form field n (b ∷ rest) all
    by true d later =
        let go : step w (Number form field (kept n)) b ≡ Next (Number form field (kept (n * 10 + (b - 48)))) = rw d (ap (λ k. Next (Number form field k)) (grown_kept n b)) in
        let f = later (stepped w (Number form field (kept n)) (Number form field (kept (n * 10 + (b - 48)))) [] b rest all go h) in
        record { digits = b ∷ f.digits; stop = f.stop; rest = f.rest; whole = ap (λ bytes. b ∷ bytes) f.whole; each = (d, f.each); no_more = f.no_more; ends = f.ends }
    by false d later = record { digits = []; stop = b; rest = rest; whole = refl; each = tt; no_more = d; ends = h }

-- a gap, a number and what follows it
record NumberFound (w : Wanted) (form : Form) (field : Field) (bytes all : List ℕ) : Type 0 where
  gap : List ℕ
  digits : List ℕ
  stop : ℕ
  rest : List ℕ
  whole : bytes ≡ gap ++ (digits ++ stop ∷ rest)
  is_gap : IsGap gap
  is_number : IsNumber (number_of digits) digits
  no_more : is_digit stop ≡ false
  ends : Ends w (Number form field (kept (number_of digits))) [] (stop ∷ rest) all

number_found : (w : Wanted) (s : State) (form : Form) (field : Field) (b : ℕ) (rest all : List ℕ) → step w s b ≡ item form field b → Ends w s [] (b ∷ rest) all → NumberFound w form field (b ∷ rest) all
number_found w s form field b rest all first h =
    let i = item_found w s form field b rest all (header_found w form field rest all) first h in
    let f = i.found in
    let low = digit_below f.digit f.is in
    let start : f.digit - 48 ≡ kept (0 * 10 + (f.digit - 48)) = omega arith in
    let d = digits_found w form field (0 * 10 + (f.digit - 48)) f.rest all (subst (λ k. Ends w (Number form field k) [] f.rest all) start f.ends) in
    record {
      gap = f.gap;
      digits = f.digit ∷ d.digits;
      stop = d.stop;
      rest = d.rest;
      whole = f.whole ∙ ap (λ bytes. f.gap ++ f.digit ∷ bytes) d.whole;
      is_gap = record { some = i.some; items = f.items };
      is_number = record { some = omega arith; each = (f.is, d.each); value = refl };
      no_more = d.no_more;
      ends = d.ends;
    }

-- the number is the wanted one
kept_is : (n m : ℕ) → kept n ≡ m → m < 2 ^ 32 - 1 → n ≡ m
kept_is n m h g = omega arith

-- a test that is a conjunction of three
record Three (a b c : Bool) : Type 0 where
  first : a ≡ true
  second : b ≡ true
  third : c ≡ true

three : (a b c : Bool) → a && b && c ≡ true → Three a b c
three true true true h = record { first = refl; second = refl; third = refl }
three true true false h = cc
three true false c h = cc
three false b c h = cc

-- the numbers of a header that leads on to its raster
record HeaderIsWanted (w : Wanted) (form : Form) (width height max stop : ℕ) (rest all : List ℕ) : Type 0 where
  white : is_space stop ≡ true
  least : 1 ≤ max
  most : max ≤ 65535
  is_width : width ≡ w.width
  is_height : height ≡ w.height
  in_type : max ≤ w.max_sample
  ends : Ends w (raster form max w.count) [] rest all

header_is_wanted : (w : Wanted) (form : Form) (width height max stop : ℕ) (rest all : List ℕ) → is_digit stop ≡ false → Ends w (Number form (Max width height) max) [] (stop ∷ rest) all → HeaderIsWanted w form width height max stop rest all
header_is_wanted w form width height max stop rest all black h = by (is_space stop && nat_le 1 max && nat_le max 65535) refl (is_wanted w width height max) refl
  where
    s : State
    s = Number form (Max width height) max

    by : (t : Bool) → is_space stop && nat_le 1 max && nat_le max 65535 ≡ t → (u : Bool) → is_wanted w width height max ≡ u → HeaderIsWanted w form width height max stop rest all
    by true e true f =
        let go : step w (Number form (Max width height) max) stop ≡ Next (raster form max w.count) = rw (black, e, f) refl in
        let a = three (is_space stop) (nat_le 1 max) (nat_le max 65535) e in
        let b = three (width == w.width) (height == w.height) (nat_le max w.max_sample) f in
        record {
          white = a.first;
          least = leb-true 1 max a.second;
          most = leb-true max 65535 a.third;
          is_width = eqb-true width w.width b.first;
          is_height = eqb-true height w.height b.second;
          in_type = leb-true max w.max_sample b.third;
          ends = stepped w (Number form (Max width height) max) (raster form max w.count) [] stop rest all go h;
        }
    by true e false f =
        let go : step w (Number form (Max width height) max) stop ≡ Fault fault.OtherImage = rw (black, e, f) refl in
        absurd (faulted w (Number form (Max width height) max) [] stop rest all fault.OtherImage go h)
    by false e u f =
        let go : step w (Number form (Max width height) max) stop ≡ Fault fault.Malformed = rw (black, e) refl in
        absurd (faulted w (Number form (Max width height) max) [] stop rest all fault.Malformed go h)

form_cases : (c : Bool) (b : ℕ) → ((form : Form) × (form_of c b ≡ Some form) × (b ≡ second_byte c form)) ⊎ (form_of c b ≡ None)
form_cases true b = by (b == 54) refl (b == 51) refl
  where
    by : (t : Bool) → (b == 54) ≡ t → (u : Bool) → (b == 51) ≡ u → ((form : Form) × (form_of true b ≡ Some form) × (b ≡ second_byte true form)) ⊎ (form_of true b ≡ None)
    by true e u f = inl (Raw, rw e refl, eqb-true b 54 e)
    by false e true f = inl (Plain, rw (e, f) refl, eqb-true b 51 f)
    by false e false f = inr (rw (e, f) refl)
form_cases false b = by (b == 53) refl (b == 50) refl
  where
    by : (t : Bool) → (b == 53) ≡ t → (u : Bool) → (b == 50) ≡ u → ((form : Form) × (form_of false b ≡ Some form) × (b ≡ second_byte false form)) ⊎ (form_of false b ≡ None)
    by true e u f = inl (Raw, rw e refl, eqb-true b 53 e)
    by false e true f = inl (Plain, rw (e, f) refl, eqb-true b 50 f)
    by false e false f = inr (rw (e, f) refl)

-- the magic, and a byte after it
record MagicFound (w : Wanted) (bytes all : List ℕ) : Type 0 where
  form : Form
  next : ℕ
  rest : List ℕ
  whole : bytes ≡ 80 ∷ second_byte w.has_colours form ∷ next ∷ rest
  ends : Ends w (Magic form) [] (next ∷ rest) all

second_found : (w : Wanted) (b c : ℕ) (rest all : List ℕ) → b ≡ 80 → Ends w Letter [] (c ∷ rest) all → MagicFound w (b ∷ c ∷ rest) all
second_found w b c rest all first h = by (form_cases w.has_colours c) rest h
  where
    by : ((form : Form) × (form_of w.has_colours c ≡ Some form) × (c ≡ second_byte w.has_colours form)) ⊎ (form_of w.has_colours c ≡ None) → (rest : List ℕ) → Ends w Letter [] (c ∷ rest) all → MagicFound w (b ∷ c ∷ rest) all
    by (inl f) [] g =
        let go : step w Letter c ≡ Next (Magic f.0) = ap after_magic f.1 in
        absurd (no_file fault.TooShort all (stepped w Letter (Magic f.0) [] c [] all go g))
    by (inl f) (d ∷ rest) g =
        let go : step w Letter c ≡ Next (Magic f.0) = ap after_magic f.1 in
        record { form = f.0; next = d; rest = rest; whole = (λ i. first i ∷ f.2 i ∷ d ∷ rest); ends = stepped w Letter (Magic f.0) [] c (d ∷ rest) all go g }
    by (inr none_of) rest g =
        let go : step w Letter c ≡ Fault fault.Magic = ap after_magic none_of in
        absurd (faulted w Letter [] c rest all fault.Magic go g)

magic_found : (w : Wanted) (bytes all : List ℕ) → Ends w Start [] bytes all → MagicFound w bytes all
magic_found w [] all h = absurd (no_file fault.Magic all h)
magic_found w (b ∷ rest) all h = by (b == 80) refl rest h
  where
    by : (t : Bool) → (b == 80) ≡ t → (rest : List ℕ) → Ends w Start [] (b ∷ rest) all → MagicFound w (b ∷ rest) all
    by true e [] g =
        let go : step w Start b ≡ Next Letter = rw e refl in
        absurd (no_file fault.Magic all (stepped w Start Letter [] b [] all go g))
    by true e (c ∷ rest) g =
        let go : step w Start b ≡ Next Letter = rw e refl in
        second_found w b c rest all (eqb-true b 80 e) (stepped w Start Letter [] b (c ∷ rest) all go g)
    by false e rest g =
        let go : step w Start b ≡ Fault fault.Magic = rw e refl in
        absurd (faulted w Start [] b rest all fault.Magic go g)

Each-after : (p : ℕ → Bool) (xs ys : List ℕ) → Each p (xs ++ ys) → Each p ys
Each-after p [] ys h = h
Each-after p (x ∷ xs) ys h = Each-after p xs ys h.1

kept_max : (n : ℕ) → kept n ≤ 65535 → n ≡ kept n
kept_max n h = omega arith

file_found : (w : Wanted) (bytes all : List ℕ) → 1 ≤ w.count → w.width < 2 ^ 32 - 1 → w.height < 2 ^ 32 - 1 → AreBytes bytes → reading w bytes ≡ Ok all → IsFile w bytes all
file_found w bytes all some wide high are h =
    let m = magic_found w bytes all h in
    let form = m.form in
    let a = number_found w (Magic form) form Width m.next m.rest all refl m.ends in
    let width = kept (number_of a.digits) in
    let b = number_found w (Number form Width width) form (Height width) a.stop a.rest all (number_item w form width a.stop a.no_more) a.ends in
    let height = kept (number_of b.digits) in
    let c = number_found w (Number form (Height width) height) form (Max width height) b.stop b.rest all (height_item w form width height b.stop b.no_more) b.ends in
    let max = kept (number_of c.digits) in
    let d = header_is_wanted w form width height max c.stop c.rest all c.no_more c.ends in
    let joined : bytes ≡ 80 ∷ second_byte w.has_colours form ∷ (a.gap ++ (a.digits ++ (b.gap ++ (b.digits ++ (c.gap ++ (c.digits ++ c.stop ∷ c.rest)))))) =
    m.whole ∙ ap (λ r. 80 ∷ second_byte w.has_colours form ∷ r) (a.whole ∙ ap (λ r. a.gap ++ (a.digits ++ r)) (b.whole ∙ ap (λ r. b.gap ++ (b.digits ++ r)) c.whole)) in
    let byte : ℕ → Bool = λ k. nat_lt k 256 in
    let of_all = subst AreBytes joined are in
    let of_raster =
    (Each-after byte c.digits (c.stop ∷ c.rest) (Each-after byte c.gap (c.digits ++ c.stop ∷ c.rest)
    (Each-after byte b.digits (c.gap ++ (c.digits ++ c.stop ∷ c.rest)) (Each-after byte b.gap (b.digits ++ (c.gap ++ (c.digits ++ c.stop ∷ c.rest)))
    (Each-after byte a.digits (b.gap ++ (b.digits ++ (c.gap ++ (c.digits ++ c.stop ∷ c.rest)))) (Each-after byte a.gap (a.digits ++ (b.gap ++ (b.digits ++ (c.gap ++ (c.digits ++ c.stop ∷ c.rest))))) of_all.1.1)))))).1 in
    let r = raster_found w form max w.count c.rest all d.most some of_raster d.ends in
    let same = r.whole in
    record {
      form = form;
      max = max;
      before_width = a.gap;
      width = a.digits;
      before_height = b.gap;
      height = b.digits;
      before_max = c.gap;
      greatest = c.digits;
      space = c.stop;
      raster = c.rest;
      whole = joined;
      first_gap = a.is_gap;
      second_gap = b.is_gap;
      third_gap = c.is_gap;
      is_width = subst (λ n. IsNumber n a.digits) (kept_is (number_of a.digits) w.width d.is_width wide) a.is_number;
      is_height = subst (λ n. IsNumber n b.digits) (kept_is (number_of b.digits) w.height d.is_height high) b.is_number;
      is_max = subst (λ n. IsNumber n c.digits) (kept_max (number_of c.digits) d.most) c.is_number;
      least = d.least;
      most = d.most;
      in_type = d.in_type;
      after_max = d.white;
      is_raster = subst (λ samples. IsRaster form max samples c.rest) (sym same) r.raster;
      count = ap length same ∙ r.count;
    }

pub read_files_are_files : ReadFilesAreFiles
read_files_are_files f bytes samples shape are h =
    let b = bounds f.extents shape.extents in
    let wide = b.width in
    let high = b.height in
    file_found (wanted_of f) bytes samples b.count (omega arith) (omega arith) are h
