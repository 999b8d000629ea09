-- What the bytes of a text are: white space and comments, words, numbers and symbols.
use Rattle.std.specs.Prelude.{◌≡◌, ◌<◌, ◌≤◌, ◌+◌, ◌-◌, ℕ, min, Bool, true, false, not, ◌&&◌, ◌||◌, ◌==◌, nat_eq, nat_lt, nat_le, if◌then◌else◌, List, [], ◌∷◌, length, take, drop, slice_index, find, All, Option, Some, None, IsSome, option_map, option_and_then}
use Rattle.std.specs.List.{prefix_len, starts_with}
use Rattle.std.specs.Str.{bytes_eq}
use Rattle.std.specs.Str.Parse.{digits_value}
use Rattle.numeric.specs.declared.ty.Ty.{Ty}
use Rattle.numeric.specs.declared.ty.Ty.TheVariants as ty
use Rattle.tree.specs.declared.token.span.Span.{Span}
use Rattle.tree.specs.declared.token.token.Word.{Word}
use Rattle.tree.specs.declared.token.token.Word.TheVariants as word
use Rattle.tree.specs.declared.token.token.Symbol.{Symbol}
use Rattle.tree.specs.declared.token.token.Symbol.TheVariants as symbol
use Rattle.tree.specs.declared.token.token.Literal.{Literal}
use Rattle.tree.specs.declared.token.token.Token.{Token}
use Rattle.tree.specs.declared.token.token.Token.TheVariants as token
use Rattle.tree.specs.declared.token.token.Lexeme.{Lexeme}
use Rattle.tree.specs.declared.token.error.TokenError.{TokenError}
use Rattle.tree.specs.declared.token.error.TokenError.TheVariants as error
use Rattle.tree.specs.Token.Spelling.{type_text, word_text, symbol_text, is_digit, is_word_byte, IsSpelled}

-- the types, the words, and the symbols with the longer ones first
abbrev pub types : List Ty
types = ty.U8 ∷ ty.U16 ∷ ty.U32 ∷ ty.I8 ∷ ty.I16 ∷ ty.I32 ∷ []

abbrev pub words : List Word
words = word.Pipeline ∷ word.Input ∷ word.Func ∷ word.Update ∷ word.Over ∷ word.Output ∷ word.Min ∷ word.Max ∷ word.Clamp ∷ word.Select ∷ word.Not ∷ word.All ∷ word.Any ∷ []

abbrev pub symbols : List Symbol
symbols = symbol.DotDot ∷ symbol.EqualsEquals ∷ symbol.NotEquals ∷ symbol.LessEquals ∷ symbol.GreaterEquals ∷ symbol.Plus ∷ symbol.Minus ∷ symbol.Star ∷ symbol.Slash ∷ symbol.Percent ∷ symbol.LeftParen ∷ symbol.RightParen ∷ symbol.LeftBracket ∷ symbol.RightBracket ∷ symbol.Comma ∷ symbol.Semicolon ∷ symbol.Dot ∷ symbol.Equals ∷ symbol.Less ∷ symbol.Greater ∷ []

unfoldable pub type_named : List ℕ → Option Ty
type_named text = find (λ t. bytes_eq (type_text t) text) types

unfoldable pub word_named : List ℕ → Option Word
word_named text = find (λ w. bytes_eq (word_text w) text) words

-- the longest symbol that stands at the front
unfoldable pub symbol_at : List ℕ → Option Symbol
symbol_at bytes = find (λ s. starts_with nat_eq bytes (symbol_text s)) symbols

-- ---- white space and comments

abbrev pub is_blank : ℕ → Bool
is_blank b = b == 32 || b == 9 || b == 13 || b == 10

-- Whether the byte after b is in a comment, if b belongs to white space or to a comment. The bytes of a comment are ASCII.
abbrev pub gap_goes_on : Bool → ℕ → Option Bool
gap_goes_on false b = if b == 35 then Some true else (if is_blank b then Some false else None)
gap_goes_on true b = if b == 10 then Some false else (if nat_lt b 128 then Some true else None)

abbrev pub one_more : Option Bool → (Bool → ℕ) → ℕ
one_more None k = 0
one_more (Some in_comment) k = 1 + k in_comment

-- how many bytes of white space and comments stand at the front
abbrev pub gap_from : Bool → List ℕ → ℕ
gap_from in_comment [] = 0
gap_from in_comment (b ∷ bs) = one_more (gap_goes_on in_comment b) (λ next. gap_from next bs)

abbrev pub gap : List ℕ → ℕ
gap bytes = gap_from false bytes

-- ---- numbers

-- A number with no type is an i32.
abbrev pub largest : Option Ty → ℕ
largest None = 2147483647
largest (Some ty.U8) = 255
largest (Some ty.U16) = 65535
largest (Some ty.U32) = 4294967295
largest (Some ty.I8) = 127
largest (Some ty.I16) = 32767
largest (Some ty.I32) = 2147483647

-- no zero in front
abbrev pub is_plain : List ℕ → Bool
is_plain digits = not (slice_index digits 0 == 48) || length digits == 1

-- the type behind a number, which may be left out
abbrev pub suffix_type : List ℕ → Option (Option Ty)
suffix_type [] = Some None
suffix_type (b ∷ bs) = option_map (λ t. Some t) (type_named (b ∷ bs))

-- the number, if it is in its type
abbrev pub literal : List ℕ → Option Ty → Option Literal
literal digits ty = if is_plain digits && nat_le (digits_value 10 digits) (largest ty) then Some (record { value = digits_value 10 digits; ty = ty }) else None

unfoldable pub number_of : List ℕ → Option Literal
number_of text = option_and_then (literal (take (prefix_len is_digit text) text)) (suffix_type (drop (prefix_len is_digit text) text))

-- ---- tokens

-- a word that is no type and no word of the grammar
abbrev pub name_token : List ℕ → Token
name_token text = if nat_le (length text) 16 then token.Name text else token.LongName

abbrev pub or_name : List ℕ → Option Ty → Option Word → Token
or_name text (Some t) w = token.Type t
or_name text None (Some w) = token.Word w
or_name text None None = name_token text

-- what a longest run of letters, digits and `_` is
unfoldable pub word_token : List ℕ → Option Token
word_token text = if is_digit (slice_index text 0) then option_map (λ n. token.Number n) (number_of text) else Some (or_name text (type_named text) (word_named text))

-- the token at the front, and how many bytes it takes
unfoldable pub token_at : List ℕ → Option (Token × ℕ)
token_at bytes =
    if is_word_byte (slice_index bytes 0)
    then option_map (λ t. (t, prefix_len is_word_byte bytes)) (word_token (take (prefix_len is_word_byte bytes) bytes))
    else option_map (λ s. (token.Symbol s, length (symbol_text s))) (symbol_at bytes)

-- how many bytes a character has whose first byte this is
abbrev pub char_len : ℕ → ℕ
char_len b = if nat_lt b 128 then 1 else (if nat_lt b 224 then 2 else (if nat_lt b 240 then 3 else 4))

-- how many bytes a bad token at the front has: a run of letters, digits and `_`, or else one character
unfoldable pub bad_len : List ℕ → ℕ
bad_len bytes = if is_word_byte (slice_index bytes 0) then prefix_len is_word_byte bytes else min (char_len (slice_index bytes 0)) (length bytes)

-- ---- the tokens of a text

-- From this place on, where no white space stands, the text is these tokens with white space and comments after each, and this holds of the place after them.
abbrev pub AreUpTo : (ℕ → Type 0) → List ℕ → ℕ → List Lexeme → Type 0
AreUpTo Ends text at [] = Ends at
AreUpTo Ends text at (l ∷ ls) = (at < length text) × (l.span.start ≡ at) × (token_at (drop at text) ≡ Some (l.token, l.span.end - at)) × (at < l.span.end)
    × AreUpTo Ends text (l.span.end + gap (drop l.span.end text)) ls

-- the tokens of the whole text
abbrev pub AreLexemes : List ℕ → List Lexeme → Type 0
AreLexemes text ls = AreUpTo (λ at. length text ≤ at) text (gap text) ls

-- There are tokens up to this place, and what begins there is none.
pub record IsBadAt (text : List ℕ) (span : Span) : Type 0 where
  pub within : span.start < length text
  pub reached : (before : List Lexeme) × AreUpTo (λ at. at ≡ span.start) text (gap text) before
  pub no_token : token_at (drop span.start text) ≡ None
  pub end : span.end ≡ span.start + bad_len (drop span.start text)

abbrev pub max_text : ℕ
max_text = 65536

-- Why a text is refused. Memory is wanted only where a token stands.
abbrev pub IsRefused : List ℕ → TokenError → Type 0
IsRefused text error.Memory = (length text ≤ max_text) × (gap text < length text) × IsSome (token_at (drop (gap text) text))
IsRefused text (error.TooLong span) = (max_text < length text) × (span ≡ record { start = max_text; end = length text })
IsRefused text (error.BadToken span) = (length text ≤ max_text) × IsBadAt text span × ((ls : List Lexeme) → AreLexemes text ls → ⊥)

-- each token ends behind its start, and the next one begins no earlier
abbrev pub SpansRise : ℕ → List Lexeme → ℕ → Type 0
SpansRise from [] end = from ≤ end
SpansRise from (l ∷ ls) end = (from ≤ l.span.start) × (l.span.start < l.span.end) × SpansRise l.span.end ls end

-- the bytes of a text in a span
abbrev pub slice : List ℕ → Span → List ℕ
slice text span = take (span.end - span.start) (drop span.start text)

-- each token is what stands at its place
abbrev pub AreSlices : List ℕ → List Lexeme → Type 0
AreSlices text ls = All (λ l. IsSpelled l.token (slice text l.span)) ls
