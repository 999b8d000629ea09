-- Reading without a look at what stands between the parts: each text gives some value and a rest, and the text of a
-- value that fits gives that value. What is out of range, or out of order, is read as something that is written otherwise.
use Rattle.std.specs.Prelude.{◌≡◌, ℕ, zero, suc, ◌+◌, ◌^◌, Bool, false, not, ◌&&◌, ◌||◌, ◌==◌, nat_lt, nat_le, if◌then◌else◌, ℤ, pos, List, [], ◌∷◌, ◌++◌, length, take, drop, slice_index, Option, Some, None, unwrap_or}
use lib.IntN.{neg_ℤ}
use Rattle.std.specs.List.{prefix_len, list_all}
use Rattle.std.specs.Str.Parse.{digits_value}
use Rattle.numeric.specs.declared.ty.Ty.{Ty}
use Rattle.numeric.specs.declared.ty.Ty.TheVariants as ty
use Rattle.tree.specs.Token.Spelling.{is_digit, is_word_byte}
use Rattle.tree.specs.Token.Lexical.{type_named}
use Rattle.lin.specs.Forms.{Form, is_zero}
use Rattle.lin.specs.declared.form.Multiple.{Multiple}
use Rattle.lin.specs.declared.span.Span1.{Span1}

-- ---- what ends a part

-- the byte stands at the front
abbrev pub begins : ℕ → List ℕ → Bool
begins byte text = slice_index text 0 == byte

abbrev pub is_sign : ℕ → Bool
is_sign b = b == 43 || b == 45

-- the bytes with which a form and a list of forms go on
abbrev pub is_form_byte : ℕ → Bool
is_form_byte b = is_digit b || is_sign b

abbrev pub is_forms_byte : ℕ → Bool
is_forms_byte b = is_form_byte b || b == 44

-- behind a closing bracket nothing goes on
abbrev pub no_byte : ℕ → Bool
no_byte b = false

-- the text is empty or begins with a byte that does not go on
abbrev pub Stops : (ℕ → Bool) → List ℕ → Type 0
Stops goes_on text = goes_on (slice_index text 0) ≡ false

-- ---- numbers

-- the number that the digits at the front are, if it is below a bound
abbrev pub number_below : ℕ → List ℕ → Option ℕ
number_below bound text =
    let value = digits_value 10 (take (prefix_len is_digit text) text) in
    if nat_lt value bound then Some value else None

-- the same, or 0 where there is none below the bound, and what follows the digits
unfoldable pub digits_from : ℕ → List ℕ → ℕ × List ℕ
digits_from bound text = (unwrap_or (number_below bound text) 0, drop (prefix_len is_digit text) text)

unfoldable pub count_from : List ℕ → ℕ × List ℕ
count_from text = digits_from (2 ^ 32) text

unfoldable pub number_from : List ℕ → ℤ × List ℕ
number_from text =
    if begins 45 text
    then (let n = digits_from (2 ^ 63 + 1) (drop 1 text) in (neg_ℤ (pos n.0), n.1))
    else (let n = digits_from (2 ^ 63) text in (pos n.0, n.1))

-- after an `s`
unfoldable pub symbol_from : List ℕ → ℕ × List ℕ
symbol_from text = digits_from (2 ^ 63) (drop 1 text)

-- whether no number of 64 bits with a sign begins behind this byte, where digits do
abbrev pub is_large_behind : ℕ → List ℕ → Bool
is_large_behind before text = not (is_digit before) && nat_le (if before == 45 then 2 ^ 63 + 1 else 2 ^ 63) (digits_value 10 (take (prefix_len is_digit text) text))

abbrev pub has_large_behind : ℕ → List ℕ → Bool
has_large_behind before [] = false
has_large_behind before (b ∷ bs) = is_large_behind before (b ∷ bs) || has_large_behind b bs

-- whether some run of digits, with the `-` before it if there is one, is no number of 64 bits with a sign
abbrev pub has_large_number : List ℕ → Bool
has_large_number text = has_large_behind 0 text

-- ---- lists

-- Parts as long as the separator stands between them. The number bounds them.
unfoldable pub separated_from : {X : Type 0} → ℕ → (List ℕ → X × List ℕ) → ℕ → List X → List ℕ → List X × List ℕ
separated_from separator read zero found text = (found, text)
separated_from separator read (suc most) found text =
    let part = read text in
    if begins separator part.1 then separated_from separator read most (found ++ part.0 ∷ []) (drop 1 part.1)
    else (found ++ part.0 ∷ [], part.1)

-- the same between brackets, of which the second may follow the first
unfoldable pub bracketed_from : {X : Type 0} → ℕ → (List ℕ → X × List ℕ) → List ℕ → List X × List ℕ
bracketed_from separator read text =
    if begins 93 (drop 1 text) then ([], drop 2 text)
    else (let parts = separated_from separator read (length text) [] (drop 1 text) in (parts.0, drop 1 parts.1))

-- ---- forms

unfoldable pub term_from : List ℕ → Multiple × List ℕ
term_from text =
    let factor = number_from (if begins 43 text then drop 1 text else text) in
    let symbol = symbol_from (drop 1 factor.1) in
    (record { symbol = symbol.0; factor = factor.0 }, symbol.1)

-- whether a term may stand behind others
abbrev pub may_follow : List Multiple → Multiple → Bool
may_follow found t = not (is_zero t.factor) && list_all (λ u. nat_lt u.symbol t.symbol) found

-- terms and one more behind them, which is left out where it may not stand there
abbrev pub with_term : List Multiple → Multiple → List Multiple
with_term found t = if may_follow found t then found ++ t ∷ [] else found

-- terms as long as a sign follows; the number bounds them
unfoldable pub terms_from : ℕ → List Multiple → List ℕ → List Multiple × List ℕ
terms_from zero found text = (found, text)
terms_from (suc most) found text =
    if is_sign (slice_index text 0) then terms_from most (with_term found (term_from text).0) (term_from text).1 else (found, text)

unfoldable pub form_from : List ℕ → Form × List ℕ
form_from text =
    let constant = number_from text in
    let terms = terms_from (length constant.1) [] constant.1 in
    (record { constant = constant.0; terms = terms.0 }, terms.1)

abbrev pub forms_from : List ℕ → List Form × List ℕ
forms_from text = separated_from 44 form_from (length text) [] text

unfoldable pub span_from : List ℕ → Span1 × List ℕ
span_from text =
    let lower = forms_from text in
    let upper = forms_from (drop 1 lower.1) in
    (record { lower = lower.0; upper = upper.0 }, upper.1)

abbrev pub region_from : List ℕ → List Span1 × List ℕ
region_from text = bracketed_from 59 span_from text

-- ---- names

-- the longest run of letters, digits and `_`
abbrev pub name_from : List ℕ → List ℕ × List ℕ
name_from text = (take (prefix_len is_word_byte text) text, drop (prefix_len is_word_byte text) text)

unfoldable pub type_from : List ℕ → Ty × List ℕ
type_from text = let name = name_from text in (unwrap_or (type_named name.0) ty.U8, name.1)
