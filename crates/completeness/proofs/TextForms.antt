-- Canonical forms within the limits have a text.
use Rattle.std.proofs.Common.{◌≡◌, ℕ, zero, suc, ◌<◌, ◌≤◌, ◌^◌, Bool, true, false, ◌&&◌, not, List, [], ◌∷◌, length, refl, arith}
use Rattle.std.specs.Prelude.{ℤ, pos, negsuc, nat_le, nat_lt}
use Rattle.std.specs.List.{AllByRecursion, list_all}
use Rattle.std.specs.Int.RustNames.{unsigned_abs}
use Rattle.std.proofs.lemmas.Bool.Decides.{nat_tests}
use Rattle.std.proofs.lemmas.Int.{ints}
use Rattle.lin.specs.Forms.{Form, IsCanonical, is_zero, is_within_limits}
use Rattle.lin.specs.declared.form.Multiple.{Multiple}
use Rattle.lin.specs.declared.span.Span1.{Span1}
use Rattle.spelling.specs.Words.Fitting.{fits_number, fits_term, rise, fits_form, fits_forms, fits_span, fits_region}
use Rattle.completeness.proofs.Rising.{Rises, AllRise}
use Rattle.completeness.proofs.RisingSpans.{IsTextSpan}

both : (a b : Bool) → a ≡ true → b ≡ true → (a && b) ≡ true
both true b h k = k
both false b h k = h

parts : (a b : Bool) → (a && b) ≡ true → (a ≡ true) × (b ≡ true)
parts true b h = (refl, h)
parts false b h = absurd (cc h)

less : (m n : ℕ) → m < n → nat_lt m n ≡ true
less m n h = grind (arith, nat_tests)

at_most : (m n : ℕ) → m ≤ n → nat_le m n ≡ true
at_most m n h = grind (arith, nat_tests)

at_most_so : (m n : ℕ) → nat_le m n ≡ true → m ≤ n
at_most_so m n h = grind (arith, nat_tests, h)

pub number_fits : (z : ℤ) → unsigned_abs z ≤ 2 ^ 40 → fits_number z ≡ true
number_fits (pos n) h = less n (2 ^ 63) (omega (arith, ints, h))
number_fits (negsuc n) h = less n (2 ^ 63) (omega (arith, ints, h))

-- each symbol is below this one
abbrev pub AreBelow : ℕ → List Multiple → Type 0
AreBelow m ts = AllByRecursion (λ t. t.symbol < m) ts

not_zero : (z : ℤ) → (z ≡ pos 0 → ⊥) → not (is_zero z) ≡ true
not_zero (pos zero) h = absurd (h refl)
not_zero (pos (suc n)) h = refl
not_zero (negsuc n) h = refl

terms_fit : (ts : List Multiple) → IsCanonical ts → AreBelow 1000 ts → list_all (λ t. nat_le (unsigned_abs t.factor) (2 ^ 20)) ts ≡ true → list_all fits_term ts ≡ true
terms_fit [] h k e = refl
terms_fit (t ∷ ts) h k e =
    let small = parts _ _ e in
    let near = at_most_so (unsigned_abs t.factor) (2 ^ 20) small.0 in
    let low = k.0 in
    let symbol : nat_lt t.symbol (2 ^ 63) ≡ true = less t.symbol (2 ^ 63) (omega (arith, low)) in
    let number : fits_number t.factor ≡ true = number_fits t.factor (omega (arith, near)) in
    both _ _ (both _ _ (both _ _ symbol number) (not_zero t.factor h.0)) (terms_fit ts h.2 k.1 small.1)

above : (n : ℕ) (us : List Multiple) → AllByRecursion (λ u. n < u.symbol) us → list_all (λ u. nat_lt n u.symbol) us ≡ true
above n [] h = refl
above n (u ∷ us) h = both _ _ (less n u.symbol h.0) (above n us h.1)

terms_rise : (ts : List Multiple) → IsCanonical ts → rise ts ≡ true
terms_rise [] h = refl
terms_rise (t ∷ ts) h = both _ _ (above t.symbol ts h.1) (terms_rise ts h.2)

pub form_fits : (f : Form) → Rises f → is_within_limits f ≡ true → AreBelow 1000 f.terms → fits_form f ≡ true
form_fits f h e k =
    let most = parts _ _ e in
    let terms = parts _ _ most.0 in
    let constant = at_most_so (unsigned_abs f.constant) (2 ^ 40) most.1 in
    both _ _ (both _ _ (number_fits f.constant constant) (terms_fit f.terms h k terms.1)) (terms_rise f.terms h)

-- ---- lists of forms

abbrev pub AreLimited : List Form → Type 0
AreLimited fs = AllByRecursion (λ f. is_within_limits f ≡ true) fs

abbrev pub AreOver : List Form → Type 0
AreOver fs = AllByRecursion (λ f. AreBelow 1000 f.terms) fs

all_fit : (fs : List Form) → AllRise fs → AreLimited fs → AreOver fs → list_all fits_form fs ≡ true
all_fit [] h e k = refl
all_fit (f ∷ fs) h e k = both _ _ (form_fits f h.0 e.0 k.0) (all_fit fs h.1 e.1 k.1)

pub forms_fit : (fs : List Form) → 1 ≤ length fs → length fs ≤ 4 → AllRise fs → AreLimited fs → AreOver fs → fits_forms fs ≡ true
forms_fit fs some few h e k = both _ _ (both _ _ (less 0 (length fs) (omega (arith, some))) (at_most (length fs) 4 few)) (all_fit fs h e k)

pub span_fits : (s : Span1) → IsTextSpan s → AreLimited s.lower × AreLimited s.upper → AreOver s.lower × AreOver s.upper → fits_span s ≡ true
span_fits s t e k =
    both _ _ (forms_fit s.lower t.lower_some t.lower_few t.rises.0 e.0 k.0) (forms_fit s.upper t.upper_some t.upper_few t.rises.1 e.1 k.1)

pub region_fits : (ss : List Span1) → AllByRecursion IsTextSpan ss → AllByRecursion (λ s. AreLimited s.lower × AreLimited s.upper) ss →
    AllByRecursion (λ s. AreOver s.lower × AreOver s.upper) ss → fits_region ss ≡ true
region_fits [] t e k = refl
region_fits (s ∷ ss) t e k = both _ _ (span_fits s t.0 e.0 k.0) (region_fits ss t.1 e.1 k.1)
