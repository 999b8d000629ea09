-- What is read as a raster is one of the grammar.
use Rattle.std.proofs.Common.{◌≡◌, ℕ, ◌+◌, ◌-◌, ◌*◌, ◌<◌, ◌≤◌, List, [], ◌∷◌, ◌++◌, fold, length, Bool, true, false, nat_le, nat_lt, Some, Result, Ok, Err, refl, sym, ap, ◌∙◌, subst, arith, append_assoc}
use Rattle.std.proofs.lemmas.Bool.{leb-true, ltb-true}
use Rattle.std.proofs.lemmas.Bool.Decides.{nat_tests}
use Rattle.std.proofs.lemmas.Nat.{div-mul-add, mod-mul-add}
use Rattle.pnm.specs.declared.error.PnmError.{PnmError}
use Rattle.pnm.specs.declared.error.PnmError.TheVariants as fault
use Rattle.pnm.specs.declared.state.Form.{Form}
use Rattle.pnm.specs.declared.state.Form.TheVariants.{Raw, Plain}
use Rattle.pnm.specs.declared.state.Wanted.{Wanted}
use Rattle.pnm.specs.declared.state.State.{State}
use Rattle.pnm.specs.declared.state.State.TheVariants.{First, Second, Between, Digits, Done}
use Rattle.pnm.specs.declared.state.Step.TheVariants.{Next, Sample, Fault}
use Rattle.pnm.specs.Bytes.{is_space, is_digit}
use Rattle.pnm.specs.Reading.{step, finish, onward, closed, with_last, after_sample, raw_sample, taken, raster, Stopped}
use Rattle.pnm.specs.Grammar.{Each, IsNumber, raw_bytes, PlainRaster, last, more, IsRaster}
use Rattle.std.proofs.lemmas.Grind.{fold-append}
use Rattle.pnm.proofs.FilesRead.{onto, steps_on, gives_on, kept, grown_kept, digit_below}
use Rattle.pnm.proofs.Written.{Each-append, length_one_more}

-- the bytes lead from the state to a whole file with these samples
abbrev pub Ends : Wanted → State → List ℕ → List ℕ → List ℕ → Type 0
Ends w s before bytes all = closed (onto w s before bytes) ≡ Ok all

stopped_stays : (w : Wanted) (e : PnmError) (bytes : List ℕ) → fold (onward w) (Stopped e) bytes ≡ Stopped e
stopped_stays w e [] = refl
stopped_stays w e (b ∷ bytes) = stopped_stays w e bytes

pub no_file : (e : PnmError) (all : List ℕ) → ◌≡◌ {A = Result (List ℕ) PnmError} (Err e) (Ok all) → ⊥
no_file e all h = cc

pub faulted : (w : Wanted) (s : State) (before : List ℕ) (b : ℕ) (rest all : List ℕ) (e : PnmError) → step w s b ≡ Fault e → Ends w s before (b ∷ rest) all → ⊥
faulted w s before b rest all e go h =
    no_file e all (sym (ap (λ r. closed (fold (onward w) (taken r before) rest)) go ∙ ap closed (stopped_stays w e rest)) ∙ h)

pub stepped : (w : Wanted) (s t : State) (before : List ℕ) (b : ℕ) (rest all : List ℕ) → step w s b ≡ Next t → Ends w s before (b ∷ rest) all → Ends w t before rest all
stepped w s t before b rest all go h = sym (ap closed (steps_on w s t before b rest go)) ∙ h

given : (w : Wanted) (s t : State) (before : List ℕ) (n b : ℕ) (rest all : List ℕ) → step w s b ≡ Sample n t → Ends w s before (b ∷ rest) all → Ends w t (before ++ n ∷ []) rest all
given w s t before n b rest all go h = sym (ap closed (gives_on w s t before n b rest go)) ∙ h

same_ok : (xs ys : List ℕ) → ◌≡◌ {A = Result (List ℕ) PnmError} (Ok xs) (Ok ys) → ys ≡ xs
same_ok xs ys h = cc

-- nothing follows a raw raster
after_raw : (w : Wanted) (before bytes all : List ℕ) → Ends w (Done Raw) before bytes all → (bytes ≡ []) × (all ≡ before)
after_raw w before [] all h = (refl, same_ok before all h)
after_raw w before (b ∷ rest) all h = absurd (faulted w (Done Raw) before b rest all fault.Trailing refl h)

-- white space alone follows a plain one
after_plain : (w : Wanted) (before bytes all : List ℕ) → Ends w (Done Plain) before bytes all → Each is_space bytes × (all ≡ before)
after_plain w before [] all h = (tt, same_ok before all h)
after_plain w before (b ∷ rest) all h = by (is_space b) refl (λ g. after_plain w before rest all g)
  where
    by : (t : Bool) → is_space b ≡ t → (Ends w (Done Plain) before rest all → Each is_space rest × (all ≡ before)) → Each is_space (b ∷ rest) × (all ≡ before)
    by true e later =
        let go : step w (Done Plain) b ≡ Next (Done Plain) = rw e refl in
        let r = later (stepped w (Done Plain) (Done Plain) before b rest all go h) in
        ((e, r.0), r.1)
    by false e later =
        let go : step w (Done Plain) b ≡ Fault fault.Trailing = rw e refl in
        absurd (faulted w (Done Plain) before b rest all fault.Trailing go h)

-- the samples that the bytes give
pub record Found (form : Form) (max left : ℕ) (before bytes all : List ℕ) : Type 0 where
  pub samples : List ℕ
  pub raster : IsRaster form max samples bytes
  pub count : length samples ≡ left
  pub whole : all ≡ before ++ samples

abbrev pub AreBytes : List ℕ → Type 0
AreBytes bytes = Each (λ b. nat_lt b 256) bytes

raw_given : (max left n : ℕ) → nat_le n max ≡ true → raw_sample max left n ≡ Sample n (after_sample Raw max left)
raw_given max left n e = rw e refl

raw_refused : (max left n : ℕ) → nat_le n max ≡ false → raw_sample max left n ≡ Fault fault.AboveMax
raw_refused max left n e = rw e refl

last_state : (form : Form) (max left : ℕ) → nat_le left 1 ≡ true → after_sample form max left ≡ Done form
last_state form max left e = rw e refl

next_state : (form : Form) (max left : ℕ) → nat_le left 1 ≡ false → after_sample form max left ≡ raster form max (left - 1)
next_state form max left e = rw e refl

low_byte : (max n : ℕ) → nat_lt max 256 ≡ true → raw_bytes max n ≡ n ∷ []
low_byte max n e = rw e refl

two_bytes : (max high low : ℕ) → nat_lt max 256 ≡ false → low < 256 → raw_bytes max (high * 256 + low) ≡ high ∷ low ∷ []
two_bytes max high low e l = rw (e, div-mul-add high 256 low l, mod-mul-add high 256 low l) refl

-- a sample before what is found after it
found_before : (max left n : ℕ) (before head rest all : List ℕ) → raw_bytes max n ≡ head → n ≤ max → 1 < left → Found Raw max (left - 1) (before ++ n ∷ []) rest all → Found Raw max left before (head ++ rest) all
found_before max left n before head rest all e h l f = record {
  samples = n ∷ f.samples;
  raster = ((h, f.raster.0), (λ i. sym e i ++ f.raster.1 i));
  count = (let count = f.count in omega arith);
  whole = f.whole ∙ append_assoc before (n ∷ []) f.samples;
}

found_last : (max left n : ℕ) (before head rest all : List ℕ) → raw_bytes max n ≡ head → n ≤ max → left ≡ 1 → (rest ≡ []) × (all ≡ before ++ n ∷ []) → Found Raw max left before (head ++ rest) all
found_last max left n before head rest all e h l f = record {
  samples = n ∷ [];
  raster = ((h, tt), (λ i. sym e i ++ f.0 i));
  count = sym l;
  whole = f.1;
}

-- a whole sample, and what comes after it
raw_goes_on : (w : Wanted) (max left n : ℕ) (before head rest all : List ℕ) → ((k : ℕ) (gone : List ℕ) → 1 ≤ k → Ends w (First max k) gone rest all → Found Raw max k gone rest all)
    → 1 ≤ left → raw_bytes max n ≡ head → nat_le n max ≡ true → Ends w (after_sample Raw max left) (before ++ n ∷ []) rest all → Found Raw max left before (head ++ rest) all
raw_goes_on w max left n before head rest all later some e fits h = by (nat_le left 1) refl
  where
    by : (t : Bool) → nat_le left 1 ≡ t → Found Raw max left before (head ++ rest) all
    by true f =
        let at_end = subst (λ s. Ends w s (before ++ n ∷ []) rest all) (last_state Raw max left f) h in
        let one = leb-true left 1 f in
        found_last max left n before head rest all e (leb-true n max fits) (omega arith) (after_raw w (before ++ n ∷ []) rest all at_end)
    by false f =
        let further = subst (λ s. Ends w s (before ++ n ∷ []) rest all) (next_state Raw max left f) h in
        let many : 1 < left = grind (arith, nat_tests) in
        found_before max left n before head rest all e (leb-true n max fits) many (later (left - 1) (before ++ n ∷ []) (omega arith) further)

one_byte_found : (w : Wanted) (max left b : ℕ) (before rest all : List ℕ) → ((k : ℕ) (gone : List ℕ) → 1 ≤ k → Ends w (First max k) gone rest all → Found Raw max k gone rest all)
    → 1 ≤ left → nat_lt max 256 ≡ true → Ends w (First max left) before (b ∷ rest) all → Found Raw max left before (b ∷ rest) all
one_byte_found w max left b before rest all later some e h = by (nat_le b max) refl
  where
    by : (t : Bool) → nat_le b max ≡ t → Found Raw max left before (b ∷ rest) all
    by true f =
        let go : step w (First max left) b ≡ raw_sample max left b = rw e refl in
        raw_goes_on w max left b before (b ∷ []) rest all later some (low_byte max b e) f (given w (First max left) (after_sample Raw max left) before b b rest all (go ∙ raw_given max left b f) h)
    by false f =
        let go : step w (First max left) b ≡ raw_sample max left b = rw e refl in
        absurd (faulted w (First max left) before b rest all fault.AboveMax (go ∙ raw_refused max left b f) h)

two_bytes_found : (w : Wanted) (max left high low : ℕ) (before rest all : List ℕ) → ((k : ℕ) (gone : List ℕ) → 1 ≤ k → Ends w (First max k) gone rest all → Found Raw max k gone rest all)
    → 1 ≤ left → nat_lt max 256 ≡ false → low < 256 → Ends w (First max left) before (high ∷ low ∷ rest) all → Found Raw max left before (high ∷ low ∷ rest) all
two_bytes_found w max left high low before rest all later some e l h = by (nat_le (high * 256 + low) max) refl
  where
    go : step w (First max left) high ≡ Next (Second max left high)
    go = rw e refl

    second : Ends w (Second max left high) before (low ∷ rest) all
    second = stepped w (First max left) (Second max left high) before high (low ∷ rest) all go h

    by : (t : Bool) → nat_le (high * 256 + low) max ≡ t → Found Raw max left before (high ∷ low ∷ rest) all
    by true f =
        raw_goes_on w max left (high * 256 + low) before (high ∷ low ∷ []) rest all later some (two_bytes max high low e l) f
        (given w (Second max left high) (after_sample Raw max left) before (high * 256 + low) low rest all (raw_given max left (high * 256 + low) f) second)
    by false f = absurd (faulted w (Second max left high) before low rest all fault.AboveMax (raw_refused max left (high * 256 + low) f) second)

raw_found : (w : Wanted) (max left : ℕ) (before bytes all : List ℕ) → 1 ≤ left → AreBytes bytes → Ends w (First max left) before bytes all → Found Raw max left before bytes all
raw_found w max left before [] all some bytes h = absurd (no_file fault.TooShort all h)
raw_found w max left before (b ∷ []) all some bytes h = by (nat_lt max 256) refl
  where
    by : (t : Bool) → nat_lt max 256 ≡ t → Found Raw max left before (b ∷ []) all
    by true e = one_byte_found w max left b before [] all (λ k gone s g. absurd (no_file fault.TooShort all g)) some e h
    by false e =
        let go : step w (First max left) b ≡ Next (Second max left b) = rw e refl in
        absurd (no_file fault.TooShort all (stepped w (First max left) (Second max left b) before b [] all go h))
raw_found w max left before (b ∷ c ∷ rest) all some bytes h =
    by (nat_lt max 256) refl (λ k gone s g. raw_found w max k gone (c ∷ rest) all s bytes.1 g) (λ k gone s g. raw_found w max k gone rest all s bytes.1.1 g)
  where
    by : (t : Bool) → nat_lt max 256 ≡ t → ((k : ℕ) (gone : List ℕ) → 1 ≤ k → Ends w (First max k) gone (c ∷ rest) all → Found Raw max k gone (c ∷ rest) all)
        → ((k : ℕ) (gone : List ℕ) → 1 ≤ k → Ends w (First max k) gone rest all → Found Raw max k gone rest all) → Found Raw max left before (b ∷ c ∷ rest) all
    by true e one two = one_byte_found w max left b before (c ∷ rest) all one some e h
    by false e one two = two_bytes_found w max left b c before rest all two some e (ltb-true c 256 bytes.1.0) h

-- a plain raster
space_before : {max : ℕ} {samples bytes : List ℕ} (b : ℕ) → is_space b ≡ true → PlainRaster max samples bytes → PlainRaster max samples (b ∷ bytes)
space_before b h (last before digits after g n l a) = last (b ∷ before) digits after (h, g) n l a
space_before b h (more before digits c rest g n l white r) = more (b ∷ before) digits c rest (h, g) n l white r

number_one : (b : ℕ) → is_digit b ≡ true → IsNumber (b - 48) (b ∷ [])
number_one b h = record { some = omega arith; each = (h, tt); value = omega arith }

number_more : (n : ℕ) (ds : List ℕ) (b : ℕ) → IsNumber n ds → is_digit b ≡ true → IsNumber (n * 10 + (b - 48)) (ds ++ b ∷ [])
number_more n ds b h d = record {
  some = length_one_more ds b;
  each = Each-append is_digit ds (b ∷ []) h.each (d, tt);
  value = fold-append (λ m c. m * 10 + (c - 48)) 0 ds (b ∷ []) ∙ ap (λ m. m * 10 + (b - 48)) h.value;
}

pub digit_kept : (b : ℕ) → is_digit b ≡ true → b - 48 ≡ kept (b - 48)
digit_kept b h = let low = digit_below b h in omega arith

kept_small : (n max : ℕ) → kept n ≤ max → max ≤ 65535 → kept n ≡ n
kept_small n max h g = omega arith

-- what is found of a plain raster, between samples and in one
record PlainFound (w : Wanted) (max : ℕ) (bytes all : List ℕ) : Type 0 where
  between : (left : ℕ) (before : List ℕ) → 1 ≤ left → Ends w (Between max left) before bytes all → Found Plain max left before bytes all
  digits : (left : ℕ) (before : List ℕ) (n : ℕ) (ds : List ℕ) → IsNumber n ds → 1 ≤ left → Ends w (Digits max left (kept n)) before bytes all → Found Plain max left before (ds ++ bytes) all

last_number : (max left n : ℕ) (before ds after all : List ℕ) → IsNumber n ds → kept n ≤ max → max ≤ 65535 → left ≡ 1 → Each is_space after → all ≡ before ++ kept n ∷ [] → Found Plain max left before (ds ++ after) all
last_number max left n before ds after all h l small one white e =
    let same = kept_small n max l small in
    record {
      samples = n ∷ [];
      raster = last [] ds after tt h (subst (λ k. k ≤ max) same l) white;
      count = sym one;
      whole = e ∙ ap (λ k. before ++ k ∷ []) same;
    }

number_and_more : (max left n b : ℕ) (before ds rest all : List ℕ) → IsNumber n ds → kept n ≤ max → max ≤ 65535 → 1 < left → is_space b ≡ true → Found Plain max (left - 1) (before ++ kept n ∷ []) rest all → Found Plain max left before (ds ++ b ∷ rest) all
number_and_more max left n b before ds rest all h l small many white f =
    let same = kept_small n max l small in
    record {
      samples = n ∷ f.samples;
      raster = more [] ds b rest tt h (subst (λ k. k ≤ max) same l) white f.raster;
      count = (let count = f.count in omega arith);
      whole = f.whole ∙ (append_assoc before (kept n ∷ []) f.samples ∙ ap (λ k. before ++ k ∷ f.samples) same);
    }

number_at_end : (w : Wanted) (max left n : ℕ) (before ds all : List ℕ) → IsNumber n ds → max ≤ 65535 → 1 ≤ left → Ends w (Digits max left (kept n)) before [] all → Found Plain max left before (ds ++ []) all
number_at_end w max left n before ds all h small some g = by (nat_le (kept n) max) refl (nat_le left 1) refl
  where
    by : (t : Bool) → nat_le (kept n) max ≡ t → (u : Bool) → nat_le left 1 ≡ u → Found Plain max left before (ds ++ []) all
    by true e true f =
        let fin : finish (Digits max left (kept n)) ≡ Ok (Some (kept n)) = rw (e, f) refl in
        let one = leb-true left 1 f in
        last_number max left n before ds [] all h (leb-true (kept n) max e) small (omega arith) tt (same_ok (before ++ kept n ∷ []) all (sym (ap (with_last before) fin) ∙ g))
    by true e false f =
        let fin : finish (Digits max left (kept n)) ≡ Err fault.TooShort = rw (e, f) refl in
        absurd (no_file fault.TooShort all (sym (ap (with_last before) fin) ∙ g))
    by false e u f =
        let fin : finish (Digits max left (kept n)) ≡ Err fault.AboveMax = rw e refl in
        absurd (no_file fault.AboveMax all (sym (ap (with_last before) fin) ∙ g))

number_ends : (w : Wanted) (max left n b : ℕ) (before ds rest all : List ℕ) → PlainFound w max rest all → IsNumber n ds → max ≤ 65535 → 1 ≤ left → is_digit b ≡ false
    → Ends w (Digits max left (kept n)) before (b ∷ rest) all → Found Plain max left before (ds ++ b ∷ rest) all
number_ends w max left n b before ds rest all later h small some black g = by (nat_le (kept n) max) refl (is_space b) refl (nat_le left 1) refl
  where
    by : (t : Bool) → nat_le (kept n) max ≡ t → (v : Bool) → is_space b ≡ v → (u : Bool) → nat_le left 1 ≡ u → Found Plain max left before (ds ++ b ∷ rest) all
    by true e true white u f =
        let go : step w (Digits max left (kept n)) b ≡ Sample (kept n) (after_sample Plain max left) = rw (black, e, white) refl in
        let g2 = given w (Digits max left (kept n)) (after_sample Plain max left) before (kept n) b rest all go g in
        ends u f g2
      where
        ends : (u : Bool) → nat_le left 1 ≡ u → Ends w (after_sample Plain max left) (before ++ kept n ∷ []) rest all → Found Plain max left before (ds ++ b ∷ rest) all
        ends true f g2 =
            let r = after_plain w (before ++ kept n ∷ []) rest all (subst (λ s. Ends w s (before ++ kept n ∷ []) rest all) (last_state Plain max left f) g2) in
            let one = leb-true left 1 f in
            last_number max left n before ds (b ∷ rest) all h (leb-true (kept n) max e) small (omega arith) (white, r.0) r.1
        ends false f g2 =
            let many : 1 < left = grind (arith, nat_tests) in
            number_and_more max left n b before ds rest all h (leb-true (kept n) max e) small many white
            (later.between (left - 1) (before ++ kept n ∷ []) (omega arith) (subst (λ s. Ends w s (before ++ kept n ∷ []) rest all) (next_state Plain max left f) g2))
    by true e false dark true f =
        let go : step w (Digits max left (kept n)) b ≡ Fault fault.Trailing = rw (black, e, dark, f) refl in
        absurd (faulted w (Digits max left (kept n)) before b rest all fault.Trailing go g)
    by true e false dark false f =
        let go : step w (Digits max left (kept n)) b ≡ Fault fault.Malformed = rw (black, e, dark, f) refl in
        absurd (faulted w (Digits max left (kept n)) before b rest all fault.Malformed go g)
    by false e v white u f =
        let go : step w (Digits max left (kept n)) b ≡ Fault fault.AboveMax = rw (black, e) refl in
        absurd (faulted w (Digits max left (kept n)) before b rest all fault.AboveMax go g)

number_goes_on : (w : Wanted) (max left n b : ℕ) (before ds rest all : List ℕ) → PlainFound w max rest all → IsNumber n ds → 1 ≤ left → is_digit b ≡ true
    → Ends w (Digits max left (kept n)) before (b ∷ rest) all → Found Plain max left before (ds ++ b ∷ rest) all
number_goes_on w max left n b before ds rest all later h some digit g =
    let go : step w (Digits max left (kept n)) b ≡ Next (Digits max left (kept (n * 10 + (b - 48)))) = rw digit (ap (λ k. Next (Digits max left k)) (grown_kept n b)) in
    let g2 = stepped w (Digits max left (kept n)) (Digits max left (kept (n * 10 + (b - 48)))) before b rest all go g in
    subst (λ bytes. Found Plain max left before bytes all) (append_assoc ds (b ∷ []) rest) (later.digits left before (n * 10 + (b - 48)) (ds ++ b ∷ []) (number_more n ds b h digit) some g2)

between_more : (w : Wanted) (max left b : ℕ) (before rest all : List ℕ) → PlainFound w max rest all → 1 ≤ left → Ends w (Between max left) before (b ∷ rest) all → Found Plain max left before (b ∷ rest) all
between_more w max left b before rest all later some g = by (is_space b) refl (is_digit b) refl
  where
    by : (t : Bool) → is_space b ≡ t → (u : Bool) → is_digit b ≡ u → Found Plain max left before (b ∷ rest) all
    by true white u d =
        let go : step w (Between max left) b ≡ Next (Between max left) = rw white refl in
        let f = later.between left before some (stepped w (Between max left) (Between max left) before b rest all go g) in
        record { samples = f.samples; raster = space_before b white f.raster; count = f.count; whole = f.whole }
    by false dark true digit =
        let go : step w (Between max left) b ≡ Next (Digits max left (kept (b - 48))) = rw (dark, digit) (ap (λ k. Next (Digits max left k)) (digit_kept b digit)) in
        later.digits left before (b - 48) (b ∷ []) (number_one b digit) some (stepped w (Between max left) (Digits max left (kept (b - 48))) before b rest all go g)
    by false dark false black =
        let go : step w (Between max left) b ≡ Fault fault.Malformed = rw (dark, black) refl in
        absurd (faulted w (Between max left) before b rest all fault.Malformed go g)

digits_more : (w : Wanted) (max left n b : ℕ) (before ds rest all : List ℕ) → PlainFound w max rest all → IsNumber n ds → max ≤ 65535 → 1 ≤ left
    → Ends w (Digits max left (kept n)) before (b ∷ rest) all → Found Plain max left before (ds ++ b ∷ rest) all
digits_more w max left n b before ds rest all later h small some g = by (is_digit b) refl
  where
    by : (t : Bool) → is_digit b ≡ t → Found Plain max left before (ds ++ b ∷ rest) all
    by true d = number_goes_on w max left n b before ds rest all later h some d g
    by false d = number_ends w max left n b before ds rest all later h small some d g

plain_found : (w : Wanted) (max : ℕ) → max ≤ 65535 → (bytes all : List ℕ) → PlainFound w max bytes all
plain_found w max small [] all = record {
  between = λ left before some h. absurd (no_file fault.TooShort all h);
  digits = λ left before n ds number some h. number_at_end w max left n before ds all number small some h;
}
plain_found w max small (b ∷ rest) all =
    let later = plain_found w max small rest all in
    record {
      between = λ left before some h. between_more w max left b before rest all later some h;
      digits = λ left before n ds number some h. digits_more w max left n b before ds rest all later number small some h;
    }

-- a raster
pub raster_found : (w : Wanted) (form : Form) (max left : ℕ) (bytes all : List ℕ) → max ≤ 65535 → 1 ≤ left → AreBytes bytes → Ends w (raster form max left) [] bytes all → Found form max left [] bytes all
raster_found w Raw max left bytes all small some h g = raw_found w max left [] bytes all some h g
raster_found w Plain max left bytes all small some h g = (plain_found w max small bytes all).between left [] some g
