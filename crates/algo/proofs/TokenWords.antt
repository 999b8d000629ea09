-- What the tokens of a text say of its names and numbers.
use Rattle.std.proofs.Common.{◌≡◌, ℕ, ◌+◌, ◌-◌, ◌≤◌, Bool, true, false, List, [], ◌∷◌, length, get_or, take, drop, Option, Some, None, refl, subst, arith}
use Rattle.std.specs.Prelude.{nat_le, if◌then◌else◌, option_map, option_and_then, ◌&&◌}
use Rattle.std.specs.List.{prefix_len, AllByRecursion}
use Rattle.std.specs.Str.Parse.{digits_value}
use Rattle.std.proofs.lemmas.Bool.Decides.{nat_tests}
use Rattle.numeric.specs.declared.ty.Ty.{Ty}
use Rattle.tree.specs.declared.token.token.Word.{Word}
use Rattle.tree.specs.declared.token.token.Symbol.{Symbol}
use Rattle.tree.specs.declared.token.token.Literal.{Literal}
use Rattle.tree.specs.declared.token.token.Token.{Token}
use Rattle.tree.specs.declared.token.token.Token.TheVariants as token
use Rattle.tree.specs.declared.token.token.Lexeme.{Lexeme}
use Rattle.tree.specs.Token.Spelling.{symbol_text, is_digit, is_word_byte, IsWord}
use Rattle.tree.specs.Token.Cursor.{kinds}
use Rattle.tree.specs.Token.Lexical.{largest, is_plain, suffix_type, literal, type_named, word_named, symbol_at, number_of, or_name, word_token, token_at, gap, AreUpTo}
use Rattle.tree.proofs.Spelled.{token_spelled}
use Rattle.algo.specs.Words.{IsName}

from_some : {A : Type 0} (x y : A) → Some x ≡ Some y → x ≡ y
from_some x y e = cc

-- a name is short, no type and no word of the grammar; a number is in its type
abbrev IsWithin : Token → Type 0
IsWithin (token.Name x) = (length x ≤ 16) × (type_named x ≡ None) × (word_named x ≡ None)
IsWithin token.LongName = Unit {0}
IsWithin (token.Number n) = n.value ≤ largest n.ty
IsWithin (token.Type t) = Unit {0}
IsWithin (token.Word w) = Unit {0}
IsWithin (token.Symbol s) = Unit {0}

-- ---- numbers

literal_within : (digits : List ℕ) (ty : Option Ty) (n : Literal) (plain small : Bool) → nat_le (digits_value 10 digits) (largest ty) ≡ small
    → (if plain && small then Some (record { value = digits_value 10 digits; ty = ty }) else None) ≡ Some n → n.value ≤ largest n.ty
literal_within digits ty n true true fits e =
    let here : digits_value 10 digits ≤ largest ty = grind (arith, nat_tests) in
    subst (λ (m : Literal). m.value ≤ largest m.ty) (from_some (record { value = digits_value 10 digits; ty = ty }) n e) here
literal_within digits ty n true false fits e = absurd (let f = e in cc)
literal_within digits ty n false small fits e = absurd (let f = e in cc)

number_within_at : (digits : List ℕ) (found : Option (Option Ty)) (n : Literal) → option_and_then (literal digits) found ≡ Some n → n.value ≤ largest n.ty
number_within_at digits None n e = absurd (let f = e in cc)
number_within_at digits (Some ty) n e = literal_within digits ty n (is_plain digits) (nat_le (digits_value 10 digits) (largest ty)) refl e

number_within : (text : List ℕ) (n : Literal) → number_of text ≡ Some n → n.value ≤ largest n.ty
unfolding number_of
number_within text n e = number_within_at (take (prefix_len is_digit text) text) (suffix_type (drop (prefix_len is_digit text) text)) n e

-- ---- words

short_name : (text : List ℕ) (short : Bool) → type_named text ≡ None → word_named text ≡ None → nat_le (length text) 16 ≡ short
    → IsWithin (if short then token.Name text else token.LongName)
short_name text true no_type no_word e = (grind (arith, nat_tests), no_type, no_word)
short_name text false no_type no_word e = tt

word_within : (text : List ℕ) (t : Option Ty) (w : Option Word) → type_named text ≡ t → word_named text ≡ w → IsWithin (or_name text t w)
word_within text (Some t) w no_type no_word = tt
word_within text None (Some w) no_type no_word = tt
word_within text None None no_type no_word = short_name text (nat_le (length text) 16) no_type no_word refl

digits_within : (found : Option Literal) (u : Token) → ((n : Literal) → found ≡ Some n → n.value ≤ largest n.ty) → option_map (λ n. token.Number n) found ≡ Some u → IsWithin u
digits_within None u f e = absurd (let g = e in cc)
digits_within (Some n) u f e = subst IsWithin (from_some (token.Number n) u e) (f n refl)

run_within_at : (text : List ℕ) (u : Token) (digit : Bool)
    → (if digit then option_map (λ n. token.Number n) (number_of text) else Some (or_name text (type_named text) (word_named text))) ≡ Some u → IsWithin u
run_within_at text u true e = digits_within (number_of text) u (number_within text) e
run_within_at text u false e = subst IsWithin (from_some (or_name text (type_named text) (word_named text)) u e) (word_within text (type_named text) (word_named text) refl refl)

run_within : (text : List ℕ) (u : Token) → word_token text ≡ Some u → IsWithin u
unfolding word_token
run_within text u e = run_within_at text u (is_digit (get_or text 0 0)) e

-- ---- tokens

run_paired : (n : ℕ) (found : Option Token) (t : Token) (len : ℕ) → ((u : Token) → found ≡ Some u → IsWithin u)
    → option_map {U = Token × ℕ} (λ u. (u, n)) found ≡ Some (t, len) → IsWithin t
run_paired n None t len f e = absurd (let g = e in cc)
run_paired n (Some u) t len f e = subst (λ (p : Token × ℕ). IsWithin p.0) (from_some (u, n) (t, len) e) (f u refl)

symbol_paired : (found : Option Symbol) (t : Token) (len : ℕ) → option_map {U = Token × ℕ} (λ s. (token.Symbol s, length (symbol_text s))) found ≡ Some (t, len) → IsWithin t
symbol_paired None t len e = absurd (let g = e in cc)
symbol_paired (Some s) t len e = subst (λ (p : Token × ℕ). IsWithin p.0) (from_some (token.Symbol s, length (symbol_text s)) (t, len) e) tt

token_within_at : (bytes : List ℕ) (t : Token) (len : ℕ) (word : Bool)
    → (if word
    then option_map {U = Token × ℕ} (λ u. (u, prefix_len is_word_byte bytes)) (word_token (take (prefix_len is_word_byte bytes) bytes))
    else option_map {U = Token × ℕ} (λ s. (token.Symbol s, length (symbol_text s))) (symbol_at bytes)) ≡ Some (t, len) → IsWithin t
token_within_at bytes t len true e = let n = prefix_len is_word_byte bytes in run_paired n (word_token (take n bytes)) t len (run_within (take n bytes)) e
token_within_at bytes t len false e = symbol_paired (symbol_at bytes) t len e

token_within : (bytes : List ℕ) (t : Token) (len : ℕ) → token_at bytes ≡ Some (t, len) → IsWithin t
unfolding token_at
token_within bytes t len e = token_within_at bytes t len (is_word_byte (get_or bytes 0 0)) e

-- ---- the tokens of a text

-- a name is one, and a number is in its type
abbrev pub IsRead : Token → Type 0
IsRead (token.Name x) = IsName x
IsRead token.LongName = Unit {0}
IsRead (token.Number n) = n.value ≤ largest n.ty
IsRead (token.Type t) = Unit {0}
IsRead (token.Word w) = Unit {0}
IsRead (token.Symbol s) = Unit {0}

abbrev pub AreRead : List Token → Type 0
AreRead = AllByRecursion IsRead

name_read : (bytes x : List ℕ) (len : ℕ) → token_at bytes ≡ Some (token.Name x, len) → IsName x
name_read bytes x len e =
    let spelled = token_spelled bytes (token.Name x) len e in
    let within = token_within bytes (token.Name x) len e in
    record { word = subst IsWord spelled.0 spelled.1; short = within.0; no_type = within.1; no_word = within.2 }

token_read : (bytes : List ℕ) (t : Token) (len : ℕ) → token_at bytes ≡ Some (t, len) → IsRead t
token_read bytes (token.Name x) len e = name_read bytes x len e
token_read bytes token.LongName len e = tt
token_read bytes (token.Number n) len e = token_within bytes (token.Number n) len e
token_read bytes (token.Type t) len e = tt
token_read bytes (token.Word w) len e = tt
token_read bytes (token.Symbol s) len e = tt

pub lexemes_read : (Ends : ℕ → Type 0) (text : List ℕ) (at : ℕ) (ls : List Lexeme) → AreUpTo Ends text at ls → AreRead (kinds ls)
lexemes_read Ends text at [] h = tt
lexemes_read Ends text at (l ∷ ls) h =
    (token_read (drop at text) l.token (l.span.end - at) h.2, lexemes_read Ends text (l.span.end + gap (drop l.span.end text)) ls h.4)
