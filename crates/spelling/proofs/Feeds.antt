-- No text of a value that fits has a line feed in it.
use Rattle.std.proofs.Common.{◌≡◌, ℕ, suc, ◌^◌, ◌<◌, Bool, true, not, List, [], ◌∷◌, ◌++◌, refl, arith}
use Rattle.std.specs.Prelude.{pos, negsuc, ◌==◌}
use Rattle.std.specs.List.{flat_map, list_all}
use Rattle.std.specs.Fmt.{decimal}
use Rattle.std.proofs.lemmas.Bool.{ltb-true}
use Rattle.std.proofs.lemmas.Bool.Decides.{nat_tests}
use Rattle.tree.specs.Token.Spelling.{is_digit, is_word_byte, type_text}
use Rattle.lin.specs.declared.form.Multiple.{Multiple}
use Rattle.spelling.specs.Words.Spelling.{count_text, number_text, signed_text, symbol_text, term_text, form_text, forms_text, span_text, region_text, separated_text, bracketed_text}
use Rattle.spelling.specs.Words.Fitting.{fits_count, fits_number, fits_symbol, fits_term, fits_form, fits_forms, fits_span, fits_region, is_name}
use Rattle.spelling.specs.Words.Laws.{is_feedless, IsFeedless}
use Rattle.spelling.proofs.Runs.{both, decimal_passes}
use Rattle.spelling.proofs.WordsAgain.{term_parts, form_parts, forms_fit, name_bytes, type_word}

pub joined : (front bytes : List ℕ) → is_feedless front ≡ true → is_feedless bytes ≡ true → is_feedless (front ++ bytes) ≡ true
joined [] bytes p q = q
joined (a ∷ front) bytes p q = let h = both (not (a == 10)) (is_feedless front) p in rw (h.0, joined front bytes h.1 q) refl

word_byte : (b : ℕ) → is_word_byte b ≡ true → not (b == 10) ≡ true
word_byte b h = grind (arith, nat_tests)

digit : (b : ℕ) → is_digit b ≡ true → not (b == 10) ≡ true
digit b h = grind (arith, nat_tests)

passing : (p : ℕ → Bool) → ((b : ℕ) → p b ≡ true → not (b == 10) ≡ true) → (bytes : List ℕ) → list_all p bytes ≡ true → is_feedless bytes ≡ true
passing p none [] h = refl
passing p none (b ∷ bytes) h = let one = both (p b) (list_all p bytes) h in rw (none b one.0, passing p none bytes one.1) refl

-- ---- numbers

decimal_feedless : (n : ℕ) → n < 2 ^ 64 → is_feedless (decimal n) ≡ true
decimal_feedless n lt = passing is_digit digit (decimal n) (decimal_passes n lt)

pub count_feedless : IsFeedless fits_count count_text
count_feedless n fits = let lt : n < 2 ^ 32 = ltb-true n (2 ^ 32) fits in decimal_feedless n (omega arith)

pub symbol_feedless : IsFeedless fits_symbol symbol_text
symbol_feedless n fits = let lt : n < 2 ^ 63 = ltb-true n (2 ^ 63) fits in decimal_feedless n (omega arith)

pub number_feedless : IsFeedless fits_number number_text
number_feedless (pos n) fits = let lt : n < 2 ^ 63 = ltb-true n (2 ^ 63) fits in decimal_feedless n (omega arith)
number_feedless (negsuc n) fits = let lt : n < 2 ^ 63 = ltb-true n (2 ^ 63) fits in decimal_feedless (suc n) (omega arith)

signed_feedless : IsFeedless fits_number signed_text
signed_feedless (pos n) fits = number_feedless (pos n) fits
signed_feedless (negsuc n) fits = number_feedless (negsuc n) fits

-- ---- forms

term_feedless : IsFeedless fits_term term_text
unfolding term_text
term_feedless t fits =
    let parts = term_parts t fits in
    joined (signed_text t.factor) (42 ∷ symbol_text t.symbol) (signed_feedless t.factor parts.factor) (symbol_feedless t.symbol parts.symbol)

terms_feedless : (ts : List Multiple) → list_all fits_term ts ≡ true → is_feedless (flat_map term_text ts) ≡ true
terms_feedless [] h = refl
terms_feedless (t ∷ ts) h = let one = both (fits_term t) (list_all fits_term ts) h in joined (term_text t) (flat_map term_text ts) (term_feedless t one.0) (terms_feedless ts one.1)

pub form_feedless : IsFeedless fits_form form_text
unfolding form_text
form_feedless form fits =
    let parts = form_parts form fits in
    joined (number_text form.constant) (flat_map term_text form.terms) (number_feedless form.constant parts.constant) (terms_feedless form.terms parts.terms)

-- ---- lists

module _ {X : Type 0} (separator : ℕ) (fits : X → Bool) (text : X → List ℕ) (none : IsFeedless fits text) (other : not (separator == 10) ≡ true) where
  pub separated_feedless : (xs : List X) → list_all fits xs ≡ true → is_feedless (separated_text separator text xs) ≡ true
  separated_feedless [] h = refl
  separated_feedless (x ∷ []) h = none x (both (fits x) true h).0
  separated_feedless (x ∷ y ∷ ys) h =
      let one = both (fits x) (list_all fits (y ∷ ys)) h in
      joined (text x) (separator ∷ separated_text separator text (y ∷ ys)) (none x one.0)
      (joined (separator ∷ []) (separated_text separator text (y ∷ ys)) (rw other refl) (separated_feedless (y ∷ ys) one.1))

  pub bracketed_feedless : (xs : List X) → list_all fits xs ≡ true → is_feedless (bracketed_text separator text xs) ≡ true
  bracketed_feedless xs h = joined (separated_text separator text xs) (93 ∷ []) (separated_feedless xs h) refl

pub forms_feedless : IsFeedless fits_forms forms_text
forms_feedless forms fits = separated_feedless 44 fits_form form_text form_feedless refl forms (forms_fit forms fits).1

pub span_feedless : IsFeedless fits_span span_text
unfolding span_text
span_feedless span fits =
    let parts = both (fits_forms span.lower) (fits_forms span.upper) fits in
    joined (forms_text span.lower) (58 ∷ forms_text span.upper) (forms_feedless span.lower parts.0) (forms_feedless span.upper parts.1)

pub region_feedless : IsFeedless fits_region region_text
unfolding region_text
region_feedless spans fits = bracketed_feedless 59 fits_span span_text span_feedless refl spans fits

-- ---- names and types

pub name_feedless : IsFeedless is_name (λ name. name)
name_feedless name fits = passing is_word_byte word_byte name (name_bytes name fits)

pub type_feedless : IsFeedless (λ t. true) type_text
type_feedless t fits = passing is_word_byte word_byte (type_text t) (type_word t)
