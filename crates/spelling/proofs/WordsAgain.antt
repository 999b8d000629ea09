-- What is written for a value is read as that value.
use Rattle.std.proofs.Common.{◌≡◌, ℕ, zero, suc, ◌+◌, ◌^◌, ◌≤◌, ◌<◌, Bool, true, false, ltb, leb, not, ◌&&◌, List, [], ◌∷◌, ◌++◌, length, drop, refl, sym, ap, ◌∙◌, append_assoc, arith, length-append}
use Rattle.std.specs.Prelude.{ℤ, pos, negsuc, slice_index, nat_lt, ◌==◌, if◌then◌else◌, Some}
use Rattle.std.specs.List.{flat_map, list_all}
use Rattle.std.specs.Fmt.{decimal}
use Rattle.std.proofs.lemmas.Bool.{ltb-true, lt-ltb}
use Rattle.std.proofs.lemmas.Bool.Decides.{nat_tests}
use Rattle.std.proofs.lemmas.List.{append-nil, take_at, drop_at}
use Rattle.std.proofs.lemmas.Fmt.{decimal_is_IsNumeral}
use Rattle.numeric.specs.declared.ty.Ty.{Ty}
use Rattle.numeric.specs.declared.ty.Ty.TheVariants as ty
use Rattle.tree.specs.Token.Spelling.{is_digit, is_word_byte, type_text}
use Rattle.tree.specs.Token.Lexical.{type_named}
use Rattle.lin.specs.Forms.{Form, is_zero}
use Rattle.lin.specs.declared.form.Multiple.{Multiple}
use Rattle.lin.specs.declared.span.Span1.{Span1}
use Rattle.spelling.specs.Words.Spelling.{count_text, number_text, signed_text, symbol_text, term_text, form_text, forms_text, span_text, region_text, separated_text, bracketed_text}
use Rattle.spelling.specs.Words.Fitting.{fits_count, fits_number, fits_symbol, fits_term, rise, fits_form, fits_forms, fits_span, fits_region, is_name, is_reserved}
use Rattle.spelling.specs.Words.Reading.{Stops, begins, is_sign, is_form_byte, is_forms_byte, no_byte, digits_from, count_from, number_from, symbol_from, separated_from, bracketed_from, term_from, with_term, terms_from, form_from, forms_from, span_from, region_from, name_from, type_from}
use Rattle.spelling.specs.Words.Laws.{ReadsAgain}
use Rattle.spelling.proofs.Runs.{both, neither, run_is, decimal_passes, decimal_first, digit_no_minus, digit_of_form, form_byte_not_bracket, form_byte_some}

-- ---- numbers

digits_again : (bound n : ℕ) (rest : List ℕ) → bound ≤ 2 ^ 64 → n < bound → Stops is_digit rest → digits_from bound (decimal n ++ rest) ≡ (n, rest)
unfolding digits_from
digits_again bound n rest le lt h =
    let value = (decimal_is_IsNumeral n (omega arith)).1 in
    let below : ltb n bound ≡ true = lt-ltb n bound lt in
    rw (run_is is_digit (decimal n) rest (decimal_passes n (omega arith)) h, take_at (decimal n) rest (length (decimal n)) refl, drop_at (decimal n) rest (length (decimal n)) refl, value, below) refl

pub count_again : ReadsAgain fits_count is_digit count_text count_from
unfolding count_from
count_again n rest fits h = digits_again (2 ^ 32) n rest (omega arith) (ltb-true n (2 ^ 32) fits) h

pub symbol_again : ReadsAgain fits_symbol is_digit symbol_text symbol_from
unfolding symbol_from
symbol_again n rest fits h = digits_again (2 ^ 63) n rest (omega arith) (ltb-true n (2 ^ 63) fits) h

pub number_again : ReadsAgain fits_number is_digit number_text number_from
unfolding number_from
number_again (pos n) rest fits h =
    let lt : n < 2 ^ 63 = ltb-true n (2 ^ 63) fits in
    let unsigned : begins 45 (decimal n ++ rest) ≡ false = digit_no_minus (slice_index (decimal n ++ rest) 0) (decimal_first n rest (omega arith)) in
    rw (unsigned, digits_again (2 ^ 63) n rest (omega arith) lt h) refl
number_again (negsuc n) rest fits h =
    let lt : n < 2 ^ 63 = ltb-true n (2 ^ 63) fits in
    rw (digits_again (2 ^ 63 + 1) (suc n) rest (omega arith) (omega arith) h) refl

pub number_first : (z : ℤ) (rest : List ℕ) → fits_number z ≡ true → is_form_byte (slice_index (number_text z ++ rest) 0) ≡ true
number_first (pos n) rest fits =
    let lt : n < 2 ^ 63 = ltb-true n (2 ^ 63) fits in
    digit_of_form (slice_index (decimal n ++ rest) 0) (decimal_first n rest (omega arith))
number_first (negsuc n) rest fits = refl

-- ---- terms

signed_again : (z : ℤ) (rest : List ℕ) → fits_number z ≡ true → Stops is_digit rest
    → number_from (if begins 43 (signed_text z ++ rest) then drop 1 (signed_text z ++ rest) else signed_text z ++ rest) ≡ (z, rest)
signed_again (pos n) rest fits h = number_again (pos n) rest fits h
signed_again (negsuc n) rest fits h = number_again (negsuc n) rest fits h

pub record TermParts (t : Multiple) : Type 0 where
  pub symbol : fits_symbol t.symbol ≡ true
  pub factor : fits_number t.factor ≡ true
  pub some : not (is_zero t.factor) ≡ true

pub term_parts : (t : Multiple) → fits_term t ≡ true → TermParts t
term_parts t fits =
    let some = both (fits_symbol t.symbol && fits_number t.factor) (not (is_zero t.factor)) fits in
    let numbers = both (fits_symbol t.symbol) (fits_number t.factor) some.0 in
    record { symbol = numbers.0; factor = numbers.1; some = some.1 }

term_again : (t : Multiple) (rest : List ℕ) → fits_term t ≡ true → Stops is_digit rest → term_from (term_text t ++ rest) ≡ (t, rest)
unfolding term_from term_text
term_again t rest fits h =
    let parts = term_parts t fits in
    let tail = 42 ∷ (symbol_text t.symbol ++ rest) in
    let cut : (signed_text t.factor ++ (42 ∷ symbol_text t.symbol)) ++ rest ≡ signed_text t.factor ++ tail = append_assoc (signed_text t.factor) (42 ∷ symbol_text t.symbol) rest in
    rw (cut, signed_again t.factor tail parts.factor refl, symbol_again t.symbol rest parts.symbol h) refl

signed_first : (z : ℤ) (rest : List ℕ) → is_sign (slice_index (signed_text z ++ rest) 0) ≡ true
signed_first (pos n) rest = refl
signed_first (negsuc n) rest = refl

sign_no_digit : (z : ℤ) (rest : List ℕ) → Stops is_digit (signed_text z ++ rest)
sign_no_digit (pos n) rest = refl
sign_no_digit (negsuc n) rest = refl

term_cut : (t : Multiple) (rest : List ℕ) → term_text t ++ rest ≡ signed_text t.factor ++ (42 ∷ (symbol_text t.symbol ++ rest))
unfolding term_text
term_cut t rest = append_assoc (signed_text t.factor) (42 ∷ symbol_text t.symbol) rest

term_first : (t : Multiple) (rest : List ℕ) → is_sign (slice_index (term_text t ++ rest) 0) ≡ true
term_first t rest = rw (term_cut t rest) (signed_first t.factor (42 ∷ (symbol_text t.symbol ++ rest)))

term_no_digit : (t : Multiple) (rest : List ℕ) → Stops is_digit (term_text t ++ rest)
term_no_digit t rest = rw (term_cut t rest) (sign_no_digit t.factor (42 ∷ (symbol_text t.symbol ++ rest)))

abbrev terms_text : List Multiple → List ℕ
terms_text ts = flat_map term_text ts

terms_cut : (t : Multiple) (ts : List Multiple) (rest : List ℕ) → terms_text (t ∷ ts) ++ rest ≡ term_text t ++ (terms_text ts ++ rest)
terms_cut t ts rest = append_assoc (term_text t) (terms_text ts) rest

terms_no_digit : (ts : List Multiple) (rest : List ℕ) → Stops is_digit rest → Stops is_digit (terms_text ts ++ rest)
terms_no_digit [] rest h = h
terms_no_digit (t ∷ ts) rest h = rw (terms_cut t ts rest) (term_no_digit t (terms_text ts ++ rest))

passes_inside : (p : Multiple → Bool) (found : List Multiple) (t : Multiple) (ts : List Multiple) → list_all p (found ++ t ∷ ts) ≡ true → p t ≡ true
passes_inside p [] t ts h = (both (p t) (list_all p ts) h).0
passes_inside p (u ∷ found) t ts h = passes_inside p found t ts (both (p u) (list_all p (found ++ t ∷ ts)) h).1

below_next : (found : List Multiple) (t : Multiple) (ts : List Multiple) → rise (found ++ t ∷ ts) ≡ true → list_all (λ u. nat_lt u.symbol t.symbol) found ≡ true
below_next [] t ts h = refl
below_next (u ∷ found) t ts h =
    let parts = both (list_all (λ v. nat_lt u.symbol v.symbol) (found ++ t ∷ ts)) (rise (found ++ t ∷ ts)) h in
    rw (passes_inside (λ v. nat_lt u.symbol v.symbol) found t ts parts.0, below_next found t ts parts.1) refl

next_follows : (found : List Multiple) (t : Multiple) (ts : List Multiple) → fits_term t ≡ true → rise (found ++ t ∷ ts) ≡ true → with_term found t ≡ found ++ t ∷ []
next_follows found t ts fits rises =
    let parts = term_parts t fits in
    rw (parts.some, below_next found t ts rises) refl

terms_again : (most : ℕ) (found ts : List Multiple) (rest : List ℕ) → length ts ≤ most → list_all fits_term ts ≡ true → rise (found ++ ts) ≡ true → Stops is_form_byte rest
    → terms_from most found (terms_text ts ++ rest) ≡ (found ++ ts, rest)
unfolding terms_from
terms_again zero found [] rest le fits rises h = ap (λ (ts : List Multiple). (ts, rest)) (sym (append-nil found))
terms_again (suc most) found [] rest le fits rises h =
    let none = (neither (is_digit (slice_index rest 0)) (is_sign (slice_index rest 0)) h).1 in
    rw none (ap (λ (ts : List Multiple). (ts, rest)) (sym (append-nil found)))
terms_again zero found (t ∷ ts) rest le fits rises h = absurd (omega arith)
terms_again (suc most) found (t ∷ ts) rest le fits rises h =
    let one = both (fits_term t) (list_all fits_term ts) fits in
    let stop = (neither (is_digit (slice_index rest 0)) (is_sign (slice_index rest 0)) h).0 in
    let tail = terms_text ts ++ rest in
    let read = term_again t tail one.0 (terms_no_digit ts rest stop) in
    let joined : (found ++ t ∷ []) ++ ts ≡ found ++ t ∷ ts = append_assoc found (t ∷ []) ts in
    let rises_on : rise ((found ++ t ∷ []) ++ ts) ≡ true = ap rise joined ∙ rises in
    let more = terms_again most (found ++ t ∷ []) ts rest (omega arith) one.1 rises_on h in
    rw (terms_cut t ts rest, term_first t tail, read, next_follows found t ts one.0 rises) (more ∙ ap (λ (us : List Multiple). (us, rest)) joined)

sign_some : (z : ℤ) → 0 < length (signed_text z)
sign_some (pos n) = omega arith
sign_some (negsuc n) = omega arith

terms_many : (ts : List Multiple) → length ts ≤ length (terms_text ts)
unfolding term_text
terms_many [] = omega arith
terms_many (t ∷ ts) =
    let tail = 42 ∷ symbol_text t.symbol in
    omega (arith, terms_many ts, sign_some t.factor, length-append (signed_text t.factor) tail, length-append (signed_text t.factor ++ tail) (terms_text ts))

-- ---- forms

pub record FormParts (form : Form) : Type 0 where
  pub constant : fits_number form.constant ≡ true
  pub terms : list_all fits_term form.terms ≡ true
  pub rises : rise form.terms ≡ true

pub form_parts : (form : Form) → fits_form form ≡ true → FormParts form
form_parts form fits =
    let rises = both (fits_number form.constant && list_all fits_term form.terms) (rise form.terms) fits in
    let numbers = both (fits_number form.constant) (list_all fits_term form.terms) rises.0 in
    record { constant = numbers.0; terms = numbers.1; rises = rises.1 }

form_cut : (form : Form) (rest : List ℕ) → form_text form ++ rest ≡ number_text form.constant ++ (terms_text form.terms ++ rest)
unfolding form_text
form_cut form rest = append_assoc (number_text form.constant) (terms_text form.terms) rest

pub form_again : ReadsAgain fits_form is_form_byte form_text form_from
unfolding form_from
form_again form rest fits h =
    let parts = form_parts form fits in
    let stop = (neither (is_digit (slice_index rest 0)) (is_sign (slice_index rest 0)) h).0 in
    let tail = terms_text form.terms ++ rest in
    let constant = number_again form.constant tail parts.constant (terms_no_digit form.terms rest stop) in
    let room : length form.terms ≤ length tail = omega (arith, terms_many form.terms, length-append (terms_text form.terms) rest) in
    rw (form_cut form rest, constant, terms_again (length tail) [] form.terms rest room parts.terms parts.rises h) refl

pub form_first : (form : Form) (rest : List ℕ) → fits_form form ≡ true → is_form_byte (slice_index (form_text form ++ rest) 0) ≡ true
form_first form rest fits =
    rw (form_cut form rest) (number_first form.constant (terms_text form.terms ++ rest) (form_parts form fits).constant)

-- ---- lists

-- parts that are read again, and begin with a byte of a form
module _ {X : Type 0} (separator : ℕ) (fits : X → Bool) (goes_on : ℕ → Bool) (text : X → List ℕ) (read : List ℕ → X × List ℕ)
    (again : ReadsAgain fits goes_on text read) (ends : goes_on separator ≡ false)
    (starts : (x : X) (rest : List ℕ) → fits x ≡ true → is_form_byte (slice_index (text x ++ rest) 0) ≡ true) where
  separated_cut : (x y : X) (ys : List X) (rest : List ℕ) → separated_text separator text (x ∷ y ∷ ys) ++ rest ≡ text x ++ (separator ∷ (separated_text separator text (y ∷ ys) ++ rest))
  separated_cut x y ys rest = append_assoc (text x) (separator ∷ separated_text separator text (y ∷ ys)) rest

  pub separated_first : (x : X) (xs : List X) (rest : List ℕ) → fits x ≡ true → is_form_byte (slice_index (separated_text separator text (x ∷ xs) ++ rest) 0) ≡ true
  separated_first x [] rest h = starts x rest h
  separated_first x (y ∷ ys) rest h = rw (separated_cut x y ys rest) (starts x (separator ∷ (separated_text separator text (y ∷ ys) ++ rest)) h)

  part_some : (x : X) → fits x ≡ true → 0 < length (text x)
  part_some x h = form_byte_some (text x) (starts x [] h)

  pub separated_many : (xs : List X) → list_all fits xs ≡ true → length xs ≤ length (separated_text separator text xs)
  separated_many [] h = omega arith
  separated_many (x ∷ []) h = let one = both (fits x) true h in omega (arith, part_some x one.0)
  separated_many (x ∷ y ∷ ys) h =
      let one = both (fits x) (list_all fits (y ∷ ys)) h in
      omega (arith, separated_many (y ∷ ys) one.1, length-append (text x) (separator ∷ separated_text separator text (y ∷ ys)))

  pub separated_again : (most : ℕ) (found : List X) (x : X) (xs : List X) (rest : List ℕ) → length (x ∷ xs) ≤ most → list_all fits (x ∷ xs) ≡ true → Stops goes_on rest → begins separator rest ≡ false
      → separated_from separator read most found (separated_text separator text (x ∷ xs) ++ rest) ≡ (found ++ x ∷ xs, rest)
  unfolding separated_from
  separated_again zero found x xs rest le h stop none = absurd (omega arith)
  separated_again (suc most) found x [] rest le h stop none =
      let one = both (fits x) true h in
      rw (again x rest one.0 stop, none) refl
  separated_again (suc most) found x (y ∷ ys) rest le h stop none =
      let one = both (fits x) (list_all fits (y ∷ ys)) h in
      let tail = separated_text separator text (y ∷ ys) ++ rest in
      let more = separated_again most (found ++ x ∷ []) y ys rest (omega arith) one.1 stop none in
      let some : (separator == separator) ≡ true = grind (arith, nat_tests) in
      rw (separated_cut x y ys rest, again x (separator ∷ tail) one.0 ends, some) (more ∙ ap (λ (us : List X). (us, rest)) (append_assoc found (x ∷ []) (y ∷ ys)))

  -- the same between brackets
  pub bracketed_again : (xs : List X) (rest : List ℕ) → list_all fits xs ≡ true → goes_on 93 ≡ false → (93 == separator) ≡ false
      → bracketed_from separator read (bracketed_text separator text xs ++ rest) ≡ (xs, rest)
  unfolding bracketed_from
  bracketed_again [] rest h stop other = refl
  bracketed_again (x ∷ xs) rest h stop other =
      let one = both (fits x) (list_all fits xs) h in
      let inner = separated_text separator text (x ∷ xs) in
      let cut : (inner ++ 93 ∷ []) ++ rest ≡ inner ++ (93 ∷ rest) = append_assoc inner (93 ∷ []) rest in
      let inside : begins 93 (inner ++ (93 ∷ rest)) ≡ false = form_byte_not_bracket (slice_index (inner ++ (93 ∷ rest)) 0) (separated_first x xs (93 ∷ rest) one.0) in
      let room : length (x ∷ xs) ≤ suc (length (inner ++ (93 ∷ rest))) = omega (arith, separated_many (x ∷ xs) h, length-append inner (93 ∷ rest)) in
      rw (cut, inside, separated_again (suc (length (inner ++ (93 ∷ rest)))) [] x xs (93 ∷ rest) room h stop other) refl

pub forms_fit : (forms : List Form) → fits_forms forms ≡ true → (0 < length forms) × (list_all fits_form forms ≡ true)
forms_fit forms fits =
    let parts = both (nat_lt 0 (length forms) && leb (length forms) 4) (list_all fits_form forms) fits in
    (ltb-true 0 (length forms) (both (nat_lt 0 (length forms)) (leb (length forms) 4) parts.0).0, parts.1)

forms_again_some : (forms : List Form) (rest : List ℕ) → 0 < length forms → list_all fits_form forms ≡ true → Stops is_forms_byte rest → forms_from (forms_text forms ++ rest) ≡ (forms, rest)
forms_again_some [] rest some fits h = absurd (omega arith)
forms_again_some (x ∷ xs) rest some fits h =
    let stop = neither (is_form_byte (slice_index rest 0)) (begins 44 rest) h in
    let room : length (x ∷ xs) ≤ length (forms_text (x ∷ xs) ++ rest) = omega (arith, separated_many 44 fits_form is_form_byte form_text form_from form_again refl form_first (x ∷ xs) fits, length-append (forms_text (x ∷ xs)) rest) in
    separated_again 44 fits_form is_form_byte form_text form_from form_again refl form_first (length (forms_text (x ∷ xs) ++ rest)) [] x xs rest room fits stop.0 stop.1

pub forms_again : ReadsAgain fits_forms is_forms_byte forms_text forms_from
forms_again forms rest fits h = let parts = forms_fit forms fits in forms_again_some forms rest parts.0 parts.1 h

pub forms_first : (forms : List Form) (rest : List ℕ) → 0 < length forms → list_all fits_form forms ≡ true → is_form_byte (slice_index (forms_text forms ++ rest) 0) ≡ true
forms_first [] rest some fits = absurd (omega arith)
forms_first (x ∷ xs) rest some fits = separated_first 44 fits_form is_form_byte form_text form_from form_again refl form_first x xs rest (both (fits_form x) (list_all fits_form xs) fits).0

-- ---- spans and regions

span_cut : (span : Span1) (rest : List ℕ) → span_text span ++ rest ≡ forms_text span.lower ++ (58 ∷ (forms_text span.upper ++ rest))
unfolding span_text
span_cut span rest = append_assoc (forms_text span.lower) (58 ∷ forms_text span.upper) rest

pub span_again : ReadsAgain fits_span is_forms_byte span_text span_from
unfolding span_from
span_again span rest fits h =
    let parts = both (fits_forms span.lower) (fits_forms span.upper) fits in
    rw (span_cut span rest, forms_again span.lower (58 ∷ (forms_text span.upper ++ rest)) parts.0 refl, forms_again span.upper rest parts.1 h) refl

pub span_first : (span : Span1) (rest : List ℕ) → fits_span span ≡ true → is_form_byte (slice_index (span_text span ++ rest) 0) ≡ true
span_first span rest fits =
    let parts = both (fits_forms span.lower) (fits_forms span.upper) fits in
    let lower = forms_fit span.lower parts.0 in
    rw (span_cut span rest) (forms_first span.lower (58 ∷ (forms_text span.upper ++ rest)) lower.0 lower.1)

pub region_again : ReadsAgain fits_region no_byte region_text region_from
unfolding region_text
region_again spans rest fits h = bracketed_again 59 fits_span is_forms_byte span_text span_from span_again refl span_first spans rest fits refl refl

-- ---- names and types

word_again : (word rest : List ℕ) → list_all is_word_byte word ≡ true → Stops is_word_byte rest → name_from (word ++ rest) ≡ (word, rest)
word_again word rest all h = rw (run_is is_word_byte word rest all h, take_at word rest (length word) refl, drop_at word rest (length word) refl) refl

pub name_bytes : (name : List ℕ) → is_name name ≡ true → list_all is_word_byte name ≡ true
name_bytes name fits =
    let size = nat_lt 0 (length name) && leb (length name) 16 in
    let own = both (size && list_all is_word_byte name && not (is_digit (slice_index name 0))) (not (is_reserved name)) fits in
    let front = both (size && list_all is_word_byte name) (not (is_digit (slice_index name 0))) own.0 in
    (both size (list_all is_word_byte name) front.0).1

pub name_again : ReadsAgain is_name is_word_byte (λ name. name) name_from
name_again name rest fits h = word_again name rest (name_bytes name fits) h

pub type_word : (t : Ty) → list_all is_word_byte (type_text t) ≡ true
type_word ty.U8 = refl
type_word ty.U16 = refl
type_word ty.U32 = refl
type_word ty.I8 = refl
type_word ty.I16 = refl
type_word ty.I32 = refl

type_is_named : (t : Ty) → type_named (type_text t) ≡ Some t
unfolding type_named
type_is_named ty.U8 = refl
type_is_named ty.U16 = refl
type_is_named ty.U32 = refl
type_is_named ty.I8 = refl
type_is_named ty.I16 = refl
type_is_named ty.I32 = refl

pub type_again : ReadsAgain (λ t. true) is_word_byte type_text type_from
unfolding type_from
type_again t rest fits h =
    let name = type_text t in
    rw (run_is is_word_byte name rest (type_word t) h, take_at name rest (length name) refl, drop_at name rest (length name) refl, type_is_named t) refl
