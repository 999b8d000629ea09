-- A token is written as the text that it takes.
use Rattle.std.proofs.Common.{◌≡◌, ℕ, ◌+◌, ◌≤◌, ◌<◌, Bool, true, false, cond, List, [], ◌∷◌, ◌++◌, length, get_or, take, drop, Option, Some, None, refl, sym, ap, subst, ◌∙◌, arith, rules, take-append-drop, ◌&&◌}
use Rattle.std.specs.Prelude.{find, nat_eq, nat_le, IfSome, option_map, option_and_then, if◌then◌else◌}
use Rattle.std.specs.List.{prefix_len, starts_with, AllPass}
use Rattle.std.specs.Str.{bytes_eq}
use Rattle.std.specs.Str.Parse.{digits_value, AllDigits}
use Rattle.std.specs.Fmt.{decimal}
use Rattle.std.specs.Char.{digit_value}
use Rattle.std.proofs.lemmas.Bool.Decides.{nat_tests}
use Rattle.std.proofs.lemmas.List.Folds.{length-prefix_len}
use Rattle.std.proofs.lemmas.Slice.Eq.{bytes_eq-Decides}
use Rattle.std.proofs.lemmas.Str.{digit_value_digit}
use Rattle.std.proofs.lemmas.Str.Parse.{IsNumeralModel, numerals_by_value}
use Rattle.std.proofs.lemmas.Fmt.{decimal-digits_value}
use Rattle.numeric.specs.declared.ty.Ty.{Ty}
use Rattle.numeric.specs.declared.ty.Ty.TheVariants as ty
use Rattle.tree.specs.declared.token.token.Word.{Word}
use Rattle.tree.specs.declared.token.token.Symbol.{Symbol}
use Rattle.tree.specs.declared.token.token.Literal.{Literal}
use Rattle.tree.specs.declared.token.token.Token.{Token}
use Rattle.tree.specs.declared.token.token.Token.TheVariants as token
use Rattle.tree.specs.Token.Spelling.{type_text, word_text, symbol_text, is_digit, is_word_byte, suffix_text, IsWord, IsSpelled}
use Rattle.tree.specs.Token.Lexical.{types, words, symbols, type_named, word_named, symbol_at, largest, is_plain, suffix_type, literal, number_of, or_name, word_token, token_at}
use Rattle.tree.proofs.Fronts.{found_passes, front_passes, whole_front}
use Rattle.tree.proofs.Decimals.{digit_range}

from_some : {A : Type 0} (x y : A) → Some x ≡ Some y → x ≡ y
from_some x y e = cc

-- ---- what is found in a table is spelled so

spelled_at : {X : Type 0} (text : List ℕ) (spelling : X → List ℕ) (found : Option X) (x : X) → IfSome found (λ y. bytes_eq (spelling y) text ≡ true) → found ≡ Some x → text ≡ spelling x
spelled_at text spelling None x h e = absurd (let f = e in cc)
spelled_at text spelling (Some y) x h e = sym ((bytes_eq-Decides (spelling y) text).0 h) ∙ ap spelling (from_some y x e)

type_spelled : (text : List ℕ) (t : Ty) → type_named text ≡ Some t → text ≡ type_text t
unfolding type_named
type_spelled text t e = spelled_at text type_text (find (λ t. bytes_eq (type_text t) text) types) t (found_passes (λ t. bytes_eq (type_text t) text) types) e

word_spelled : (text : List ℕ) (w : Word) → word_named text ≡ Some w → text ≡ word_text w
unfolding word_named
word_spelled text w e = spelled_at text word_text (find (λ w. bytes_eq (word_text w) text) words) w (found_passes (λ w. bytes_eq (word_text w) text) words) e

symbol_spelled_at : (bytes : List ℕ) (found : Option Symbol) (s : Symbol) → IfSome found (λ y. starts_with nat_eq bytes (symbol_text y) ≡ true) → found ≡ Some s → take (length (symbol_text s)) bytes ≡ symbol_text s
symbol_spelled_at bytes None s h e = absurd (let f = e in cc)
symbol_spelled_at bytes (Some y) s h e =
    let same : symbol_text y ≡ take (length (symbol_text y)) bytes = (bytes_eq-Decides (symbol_text y) (take (length (symbol_text y)) bytes)).0 h in
    subst (λ (x : Symbol). take (length (symbol_text x)) bytes ≡ symbol_text x) (from_some y s e) (sym same)

symbol_spelled : (bytes : List ℕ) (s : Symbol) → symbol_at bytes ≡ Some s → take (length (symbol_text s)) bytes ≡ symbol_text s
unfolding symbol_at
symbol_spelled bytes s e = symbol_spelled_at bytes (find (λ s. starts_with nat_eq bytes (symbol_text s)) symbols) s (found_passes (λ s. starts_with nat_eq bytes (symbol_text s)) symbols) e

-- ---- numbers

digits_model : IsNumeralModel (AllDigits 10) (digits_value 10)
digits_model = numerals_by_value (AllDigits 10) (search rules)

value_below : (b : ℕ) → is_digit b ≡ true → digit_value b < 10
value_below b h = let range = digit_range b h in omega (arith, range.0, range.1, digit_value_digit b range)

digits_are_at : (d : ℕ) (ds : List ℕ) (b : Bool) → is_digit d ≡ b → cond b (1 + prefix_len is_digit ds) 0 ≡ length (d ∷ ds) → (prefix_len is_digit ds ≡ length ds → AllDigits 10 ds) → AllDigits 10 (d ∷ ds)
digits_are_at d ds true e h more = (value_below d e, more (omega arith))
digits_are_at d ds false e h more = absurd (omega arith)

digits_are : (ds : List ℕ) → prefix_len is_digit ds ≡ length ds → AllDigits 10 ds
digits_are [] h = tt
digits_are (d ∷ ds) h = digits_are_at d ds (is_digit d) refl h (digits_are ds)

largest_fits : (ty : Option Ty) → largest ty ≤ 4294967295
largest_fits None = omega arith
largest_fits (Some ty.U8) = omega arith
largest_fits (Some ty.U16) = omega arith
largest_fits (Some ty.U32) = omega arith
largest_fits (Some ty.I8) = omega arith
largest_fits (Some ty.I16) = omega arith
largest_fits (Some ty.I32) = omega arith

plain_means : (digits : List ℕ) → is_plain digits ≡ true → get_or digits 0 0 ≡ 48 → length digits ≡ 1
plain_means digits h e = grind (arith, nat_tests)

decimal_is : (digits : List ℕ) (ty : Option Ty) → prefix_len is_digit digits ≡ length digits → 0 < length digits → is_plain digits ≡ true → digits_value 10 digits ≤ largest ty → decimal (digits_value 10 digits) ≡ digits
decimal_is digits ty all some plain small =
    decimal-digits_value digits_model digits (digits_are digits all) some (plain_means digits plain) (omega (arith, largest_fits ty))

literal_at : (digits : List ℕ) (ty : Option Ty) (n : Literal) (plain small : Bool) → prefix_len is_digit digits ≡ length digits → 0 < length digits → is_plain digits ≡ plain → nat_le (digits_value 10 digits) (largest ty) ≡ small
    → (if plain && small then Some (record { value = digits_value 10 digits; ty = ty }) else None) ≡ Some n → (decimal n.value ≡ digits) × (n.ty ≡ ty)
literal_at digits ty n true true all some plain small e =
    let is = from_some (record { value = digits_value 10 digits; ty = ty }) n e in
    let fits : digits_value 10 digits ≤ largest ty = grind (arith, nat_tests) in
    subst (λ (m : Literal). (decimal m.value ≡ digits) × (m.ty ≡ ty)) is (decimal_is digits ty all some plain fits, refl)
literal_at digits ty n true false all some plain small e = absurd (let f = e in cc)
literal_at digits ty n false small all some plain e1 e = absurd (let f = e in cc)

literal_spelled : (digits : List ℕ) (ty : Option Ty) (n : Literal) → prefix_len is_digit digits ≡ length digits → 0 < length digits → literal digits ty ≡ Some n → (decimal n.value ≡ digits) × (n.ty ≡ ty)
literal_spelled digits ty n all some e = literal_at digits ty n (is_plain digits) (nat_le (digits_value 10 digits) (largest ty)) all some refl refl e

suffix_at : (text : List ℕ) (found : Option Ty) (ty : Option Ty) → ((t : Ty) → found ≡ Some t → text ≡ type_text t) → option_map (λ t. Some t) found ≡ Some ty → text ≡ suffix_text ty
suffix_at text None ty f e = absurd (let g = e in cc)
suffix_at text (Some t) ty f e = f t refl ∙ ap suffix_text (from_some (Some t) ty e)

suffix_spelled : (text : List ℕ) (ty : Option Ty) → suffix_type text ≡ Some ty → text ≡ suffix_text ty
suffix_spelled [] ty e = ap suffix_text (from_some None ty e)
suffix_spelled (b ∷ bs) ty e = suffix_at (b ∷ bs) (type_named (b ∷ bs)) ty (type_spelled (b ∷ bs)) e

number_at : (digits suffix : List ℕ) (found : Option (Option Ty)) (n : Literal) → prefix_len is_digit digits ≡ length digits → 0 < length digits → ((ty : Option Ty) → found ≡ Some ty → suffix ≡ suffix_text ty)
    → option_and_then (literal digits) found ≡ Some n → digits ++ suffix ≡ decimal n.value ++ suffix_text n.ty
number_at digits suffix None n all some f e = absurd (let g = e in cc)
number_at digits suffix (Some ty) n all some f e =
    let is = literal_spelled digits ty n all some e in
    ap (λ (x : List ℕ). x ++ suffix) (sym is.0) ∙ ap (λ (x : List ℕ). decimal n.value ++ x) (f ty refl ∙ ap suffix_text (sym is.1))

some_digit_at : (b : ℕ) (bs : List ℕ) (test : Bool) → test ≡ true → 0 < cond test (1 + prefix_len is_digit bs) 0
some_digit_at b bs true e = omega arith
some_digit_at b bs false e = absurd (let f = e in cc)

some_digit : (text : List ℕ) → is_digit (get_or text 0 0) ≡ true → 0 < prefix_len is_digit text
some_digit [] e = absurd (let f = e in cc)
some_digit (b ∷ bs) e = some_digit_at b bs (is_digit b) e

number_spelled : (text : List ℕ) (n : Literal) → is_digit (get_or text 0 0) ≡ true → number_of text ≡ Some n → text ≡ decimal n.value ++ suffix_text n.ty
unfolding number_of
number_spelled text n first e =
    let k = prefix_len is_digit text in
    let len : length (take k text) ≡ k = length-prefix_len is_digit text in
    let some : 0 < length (take k text) = omega (arith, some_digit text first) in
    sym (take-append-drop k text) ∙ number_at (take k text) (drop k text) (suffix_type (drop k text)) n (whole_front is_digit text) some (suffix_spelled (drop k text)) e

-- ---- words

name_at : (text : List ℕ) (short : Bool) → IsWord text → nat_le (length text) 16 ≡ short → IsSpelled (if short then token.Name text else token.LongName) text
name_at text true word e = (refl, word)
name_at text false word e = (grind (arith, nat_tests), word)

named_at : (text : List ℕ) (t : Option Ty) (w : Option Word) → IsWord text → ((x : Ty) → t ≡ Some x → text ≡ type_text x) → ((x : Word) → w ≡ Some x → text ≡ word_text x) → IsSpelled (or_name text t w) text
named_at text (Some t) w word f g = f t refl
named_at text None (Some w) word f g = g w refl
named_at text None None word f g = name_at text (nat_le (length text) 16) word refl

digits_at : (text : List ℕ) (found : Option Literal) (u : Token) → ((n : Literal) → found ≡ Some n → text ≡ decimal n.value ++ suffix_text n.ty) → option_map (λ n. token.Number n) found ≡ Some u → IsSpelled u text
digits_at text None u f e = absurd (let g = e in cc)
digits_at text (Some n) u f e = subst (λ (t : Token). IsSpelled t text) (from_some (token.Number n) u e) (f n refl)

token_of_word_at : (text : List ℕ) (u : Token) (digit : Bool) → 0 < length text → AllPass is_word_byte text → is_digit (get_or text 0 0) ≡ digit
    → (if digit then option_map (λ n. token.Number n) (number_of text) else Some (or_name text (type_named text) (word_named text))) ≡ Some u → IsSpelled u text
token_of_word_at text u true some bytes first e = digits_at text (number_of text) u (λ n. number_spelled text n first) e
token_of_word_at text u false some bytes first e =
    subst (λ (t : Token). IsSpelled t text) (from_some (or_name text (type_named text) (word_named text)) u e)
    (named_at text (type_named text) (word_named text) (record { some = some; first = first; bytes = bytes }) (type_spelled text) (word_spelled text))

token_of_word : (text : List ℕ) (u : Token) → 0 < length text → AllPass is_word_byte text → word_token text ≡ Some u → IsSpelled u text
unfolding word_token
token_of_word text u some bytes e = token_of_word_at text u (is_digit (get_or text 0 0)) some bytes refl e

-- ---- tokens

paired : (bytes : List ℕ) (n : ℕ) (found : Option Token) (t : Token) (len : ℕ) → ((u : Token) → found ≡ Some u → IsSpelled u (take n bytes)) → option_map {U = Token × ℕ} (λ u. (u, n)) found ≡ Some (t, len) → IsSpelled t (take len bytes)
paired bytes n None t len f e = absurd (let g = e in cc)
paired bytes n (Some u) t len f e = subst (λ (p : Token × ℕ). IsSpelled p.0 (take p.1 bytes)) (from_some (u, n) (t, len) e) (f u refl)

symbol_paired : (bytes : List ℕ) (found : Option Symbol) (t : Token) (len : ℕ) → ((s : Symbol) → found ≡ Some s → take (length (symbol_text s)) bytes ≡ symbol_text s)
    → option_map {U = Token × ℕ} (λ s. (token.Symbol s, length (symbol_text s))) found ≡ Some (t, len) → IsSpelled t (take len bytes)
symbol_paired bytes None t len f e = absurd (let g = e in cc)
symbol_paired bytes (Some s) t len f e = subst (λ (p : Token × ℕ). IsSpelled p.0 (take p.1 bytes)) (from_some (token.Symbol s, length (symbol_text s)) (t, len) e) (f s refl)

some_front_at : (b : ℕ) (bs : List ℕ) (test : Bool) → test ≡ true → 0 < cond test (1 + prefix_len is_word_byte bs) 0
some_front_at b bs true e = omega arith
some_front_at b bs false e = absurd (let f = e in cc)

some_front : (bytes : List ℕ) → is_word_byte (get_or bytes 0 0) ≡ true → 0 < prefix_len is_word_byte bytes
some_front [] e = absurd (let f = e in cc)
some_front (b ∷ bs) e = some_front_at b bs (is_word_byte b) e

token_spelled_at : (bytes : List ℕ) (t : Token) (len : ℕ) (word : Bool) → is_word_byte (get_or bytes 0 0) ≡ word
    → (if word
    then option_map {U = Token × ℕ} (λ u. (u, prefix_len is_word_byte bytes)) (word_token (take (prefix_len is_word_byte bytes) bytes))
    else option_map {U = Token × ℕ} (λ s. (token.Symbol s, length (symbol_text s))) (symbol_at bytes)) ≡ Some (t, len) → IsSpelled t (take len bytes)
token_spelled_at bytes t len true first e =
    let n = prefix_len is_word_byte bytes in
    let long : length (take n bytes) ≡ n = length-prefix_len is_word_byte bytes in
    let some : 0 < length (take n bytes) = omega (arith, some_front bytes first) in
    paired bytes n (word_token (take n bytes)) t len (λ u. token_of_word (take n bytes) u some (front_passes is_word_byte bytes)) e
token_spelled_at bytes t len false first e = symbol_paired bytes (symbol_at bytes) t len (symbol_spelled bytes) e

-- the token at the front is written as the bytes that it takes
pub token_spelled : (bytes : List ℕ) (t : Token) (len : ℕ) → token_at bytes ≡ Some (t, len) → IsSpelled t (take len bytes)
unfolding token_at
token_spelled bytes t len e = token_spelled_at bytes t len (is_word_byte (get_or bytes 0 0)) refl e
