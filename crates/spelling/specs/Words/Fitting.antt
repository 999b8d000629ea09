-- Which values have a text that is read as that value.
use Rattle.std.specs.Prelude.{ℕ, ◌^◌, Bool, true, ◌&&◌, ◌||◌, not, nat_lt, nat_le, ℤ, pos, negsuc, List, [], ◌∷◌, length, slice_index}
use Rattle.std.specs.List.{list_all, list_any}
use Rattle.std.specs.Str.{bytes_eq}
use Rattle.lin.specs.Forms.{Form, is_zero}
use Rattle.lin.specs.declared.form.Multiple.{Multiple}
use Rattle.lin.specs.declared.span.Span1.{Span1}
use Rattle.tree.specs.Token.Spelling.{is_digit, is_word_byte, type_text, word_text}
use Rattle.tree.specs.Token.Lexical.{types, words}

-- ---- numbers

-- numbers of 32 bits: those of buffers and claims, and of groups at their own lines
abbrev pub fits_count : ℕ → Bool
fits_count n = nat_lt n (2 ^ 32)

-- numbers of 64 bits with a sign
abbrev pub fits_number : ℤ → Bool
fits_number (pos n) = nat_lt n (2 ^ 63)
fits_number (negsuc n) = nat_lt n (2 ^ 63)

-- symbols are such numbers too
abbrev pub fits_symbol : ℕ → Bool
fits_symbol n = nat_lt n (2 ^ 63)

-- ---- forms

abbrev pub fits_term : Multiple → Bool
fits_term t = fits_symbol t.symbol && fits_number t.factor && not (is_zero t.factor)

-- each symbol is below those of the terms behind
abbrev pub rise : List Multiple → Bool
rise [] = true
rise (t ∷ ts) = list_all (λ u. nat_lt t.symbol u.symbol) ts && rise ts

-- numbers of 64 bits, terms by rising symbol, none of them with the factor 0
abbrev pub fits_form : Form → Bool
fits_form form = fits_number form.constant && list_all fits_term form.terms && rise form.terms

-- one to four bounds
abbrev pub fits_forms : List Form → Bool
fits_forms forms = nat_lt 0 (length forms) && nat_le (length forms) 4 && list_all fits_form forms

abbrev pub fits_span : Span1 → Bool
fits_span span = fits_forms span.lower && fits_forms span.upper

abbrev pub fits_region : List Span1 → Bool
fits_region spans = list_all fits_span spans

-- ---- names

-- the name of a type, or a word of the grammar
abbrev pub is_reserved : List ℕ → Bool
is_reserved name = list_any (λ t. bytes_eq (type_text t) name) types || list_any (λ w. bytes_eq (word_text w) name) words

-- 1 to 16 letters, digits and `_`, the first of them no digit, that are not reserved
abbrev pub is_name : List ℕ → Bool
is_name name = nat_lt 0 (length name) && nat_le (length name) 16 && list_all is_word_byte name && not (is_digit (slice_index name 0)) && not (is_reserved name)
