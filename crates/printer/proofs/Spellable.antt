-- The tokens of a text have texts, but names that are too long.
use Rattle.std.proofs.Common.{◌≡◌, ℕ, suc, ◌+◌, ◌-◌, ◌≤◌, ◌<◌, Bool, true, false, cond, not, ◌&&◌, ◌||◌, List, [], ◌∷◌, ◌++◌, length, get_or, take}
use Rattle.std.proofs.Common.{drop, Option, Some, None, refl, sym, ap, subst, ◌∙◌, arith}
use Rattle.std.specs.Prelude.{find, slice_index, nat_lt, nat_le, option_map, option_and_then, if◌then◌else◌}
use Rattle.std.specs.List.{prefix_len, list_all, list_any}
use Rattle.std.specs.Str.{bytes_eq}
use Rattle.std.specs.Str.Parse.{digits_value}
use Rattle.std.proofs.lemmas.Bool.Decides.{nat_tests}
use Rattle.numeric.specs.declared.ty.Ty.{Ty}
use Rattle.tree.specs.declared.token.token.Word.{Word}
use Rattle.tree.specs.declared.token.token.Symbol.{Symbol}
use Rattle.tree.specs.declared.token.token.Literal.{Literal}
use Rattle.tree.specs.declared.token.token.Token.{Token}
use Rattle.tree.specs.declared.token.token.Token.TheVariants as token
use Rattle.tree.specs.declared.token.token.Lexeme.{Lexeme}
use Rattle.tree.specs.Token.Cursor.{kinds}
use Rattle.tree.specs.Token.Spelling.{type_text, word_text, symbol_text, is_digit, is_word_byte}
use Rattle.tree.specs.Token.Lexical.{types, words, gap, type_named, word_named, symbol_at, largest, is_plain, suffix_type, literal, number_of}
use Rattle.tree.specs.Token.Lexical.{name_token, or_name, word_token, token_at, AreUpTo, AreLexemes}
use Rattle.spelling.specs.Words.Fitting.{is_name, is_reserved}
use Rattle.spelling.proofs.Runs.{both}
use Rattle.printer.specs.Spacing.{has_text}

-- a token that has a text, or a name that is too long
abbrev pub is_read : Token → Bool
is_read token.LongName = true
is_read t = has_text t

from_some : {A : Type 0} (x y : A) → Some x ≡ Some y → x ≡ y
from_some x y e = cc

none_found_at : {X : Type 0} (p : X → Bool) (x : X) (xs : List X) (b : Bool) → p x ≡ b → cond b (Some x) (find p xs) ≡ None → (find p xs ≡ None → list_any p xs ≡ false) → (b || list_any p xs) ≡ false
none_found_at p x xs true e h f = absurd (let bad = h in cc)
none_found_at p x xs false e h f = f h

none_found : {X : Type 0} (p : X → Bool) (xs : List X) → find p xs ≡ None → list_any p xs ≡ false
none_found p [] h = refl
none_found p (x ∷ xs) h = none_found_at p x xs (p x) refl h (none_found p xs)

all_front_at : (p : ℕ → Bool) (b : ℕ) (bs : List ℕ) (test : Bool) → p b ≡ test → list_all p (take (prefix_len p bs) bs) ≡ true → list_all p (take (cond test (1 + prefix_len p bs) 0) (b ∷ bs)) ≡ true
all_front_at p b bs true e h = let next : 1 + prefix_len p bs ≡ suc (prefix_len p bs) = omega arith in rw (next, e, h) refl
all_front_at p b bs false e h = refl

all_front : (p : ℕ → Bool) (xs : List ℕ) → list_all p (take (prefix_len p xs) xs) ≡ true
all_front p [] = refl
all_front p (b ∷ bs) = all_front_at p b bs (p b) refl (all_front p bs)

-- ---- names

named_at : (text : List ℕ) (b : Bool) → nat_le (length text) 16 ≡ b → 0 < length text → list_all is_word_byte text ≡ true → is_digit (slice_index text 0) ≡ false → type_named text ≡ None → word_named text ≡ None
    → is_read (if b then token.Name text else token.LongName) ≡ true
unfolding type_named word_named
named_at text true short some bytes first no_type no_word =
    let long : nat_lt 0 (length text) ≡ true = grind (arith, nat_tests) in
    rw (long, short, bytes, first, none_found (λ t. bytes_eq (type_text t) text) types no_type, none_found (λ w. bytes_eq (word_text w) text) words no_word) refl
named_at text false short some bytes first no_type no_word = refl

or_name_read : (text : List ℕ) (t : Option Ty) (w : Option Word) (u : Token) → 0 < length text → list_all is_word_byte text ≡ true → is_digit (slice_index text 0) ≡ false
    → type_named text ≡ t → word_named text ≡ w → or_name text t w ≡ u → is_read u ≡ true
or_name_read text (Some t) w u some bytes first e f is = ap is_read (sym is)
or_name_read text None (Some w) u some bytes first e f is = ap is_read (sym is)
or_name_read text None None u some bytes first e f is = ap is_read (sym is) ∙ named_at text (nat_le (length text) 16) refl some bytes first e f

-- ---- numbers

literal_read : (n : ℕ) (plain : Bool) (t : Option Ty) (l : Literal) (b : Bool) → nat_le n (largest t) ≡ b → (if plain && b then Some (record { value = n; ty = t }) else None) ≡ Some l → is_read (token.Number l) ≡ true
literal_read n true t l true e h = ap (λ (m : Literal). is_read (token.Number m)) (sym (from_some (record { value = n; ty = t }) l h)) ∙ e
literal_read n true t l false e h = absurd (let bad = h in cc)
literal_read n false t l b e h = absurd (let bad = h in cc)

then_read : (digits : List ℕ) (t : Option (Option Ty)) (l : Literal) → option_and_then (literal digits) t ≡ Some l → is_read (token.Number l) ≡ true
then_read digits None l h = absurd (let bad = h in cc)
then_read digits (Some t) l h = literal_read (digits_value 10 digits) (is_plain digits) t l (nat_le (digits_value 10 digits) (largest t)) refl h

number_read : (text : List ℕ) (n : Option Literal) (u : Token) → number_of text ≡ n → option_map (λ l. token.Number l) n ≡ Some u → is_read u ≡ true
unfolding number_of
number_read text None u e h = absurd (let bad = h in cc)
number_read text (Some l) u e h = ap is_read (sym (from_some (token.Number l) u h)) ∙ then_read (take (prefix_len is_digit text) text) (suffix_type (drop (prefix_len is_digit text) text)) l e

-- ---- tokens

word_read_at : (text : List ℕ) (u : Token) (digit : Bool) → is_digit (slice_index text 0) ≡ digit → 0 < length text → list_all is_word_byte text ≡ true
    → (if digit then option_map (λ n. token.Number n) (number_of text) else Some (or_name text (type_named text) (word_named text))) ≡ Some u → is_read u ≡ true
word_read_at text u true first some bytes e = number_read text (number_of text) u refl e
word_read_at text u false first some bytes e = or_name_read text (type_named text) (word_named text) u some bytes first refl refl (from_some (or_name text (type_named text) (word_named text)) u e)

word_read : (text : List ℕ) (u : Token) → 0 < length text → list_all is_word_byte text ≡ true → word_token text ≡ Some u → is_read u ≡ true
unfolding word_token
word_read text u some bytes e = word_read_at text u (is_digit (slice_index text 0)) refl some bytes e

paired : (n : ℕ) (found : Option Token) (t : Token) (len : ℕ) → ((u : Token) → found ≡ Some u → is_read u ≡ true) → option_map {U = Token × ℕ} (λ u. (u, n)) found ≡ Some (t, len) → is_read t ≡ true
paired n None t len f e = absurd (let g = e in cc)
paired n (Some u) t len f e = ap (λ (p : Token × ℕ). is_read p.0) (sym (from_some (u, n) (t, len) e)) ∙ f u refl

symbol_paired : (found : Option Symbol) (t : Token) (len : ℕ) → option_map {U = Token × ℕ} (λ s. (token.Symbol s, length (symbol_text s))) found ≡ Some (t, len) → is_read t ≡ true
symbol_paired None t len e = absurd (let g = e in cc)
symbol_paired (Some s) t len e = ap (λ (p : Token × ℕ). is_read p.0) (sym (from_some (token.Symbol s, length (symbol_text s)) (t, len) e))

some_front_at : (b : ℕ) (bs : List ℕ) (test : Bool) → test ≡ true → 0 < length (take (cond test (1 + prefix_len is_word_byte bs) 0) (b ∷ bs))
some_front_at b bs true e = let next : 1 + prefix_len is_word_byte bs ≡ suc (prefix_len is_word_byte bs) = omega arith in rw next (omega arith)
some_front_at b bs false e = absurd (let f = e in cc)

some_front : (bytes : List ℕ) → is_word_byte (slice_index bytes 0) ≡ true → 0 < length (take (prefix_len is_word_byte bytes) bytes)
some_front [] e = absurd (let f = e in cc)
some_front (b ∷ bs) e = some_front_at b bs (is_word_byte b) e

token_read_at : (bytes : List ℕ) (t : Token) (len : ℕ) (word : Bool) → is_word_byte (slice_index bytes 0) ≡ word
    → (if word
    then option_map {U = Token × ℕ} (λ u. (u, prefix_len is_word_byte bytes)) (word_token (take (prefix_len is_word_byte bytes) bytes))
    else option_map {U = Token × ℕ} (λ s. (token.Symbol s, length (symbol_text s))) (symbol_at bytes)) ≡ Some (t, len) → is_read t ≡ true
token_read_at bytes t len true first e =
    let w = take (prefix_len is_word_byte bytes) bytes in
    paired (prefix_len is_word_byte bytes) (word_token w) t len (λ u. word_read w u (some_front bytes first) (all_front is_word_byte bytes)) e
token_read_at bytes t len false first e = symbol_paired (symbol_at bytes) t len e

token_read : (bytes : List ℕ) (t : Token) (len : ℕ) → token_at bytes ≡ Some (t, len) → is_read t ≡ true
unfolding token_at
token_read bytes t len e = token_read_at bytes t len (is_word_byte (slice_index bytes 0)) refl e

all_read_from : (text : List ℕ) (at : ℕ) (ls : List Lexeme) → AreUpTo (λ (place : ℕ). length text ≤ place) text at ls → list_all is_read (kinds ls) ≡ true
all_read_from text at [] h = refl
all_read_from text at (l ∷ ls) h = rw (token_read (drop at text) l.token (l.span.end - at) h.2, all_read_from text (l.span.end + gap (drop l.span.end text)) ls h.4) refl

-- each token of a text
pub all_read : (text : List ℕ) (ls : List Lexeme) → AreLexemes text ls → list_all is_read (kinds ls) ≡ true
all_read text ls h = all_read_from text (gap text) ls h
