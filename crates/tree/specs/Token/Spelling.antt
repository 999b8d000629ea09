-- How types, words and symbols are spelled.
use Rattle.std.specs.Prelude.{◌≡◌, ◌<◌, ◌++◌, ℕ, Bool, false, ◌&&◌, ◌||◌, ◌==◌, nat_le, List, [], length, slice_index, codes, Option, Some, None}
use Rattle.std.specs.List.{AllPass}
use Rattle.std.specs.Fmt.{decimal}
use Rattle.numeric.specs.declared.ty.Ty.{Ty}
use Rattle.numeric.specs.declared.ty.Ty.TheVariants as ty
use Rattle.tree.specs.declared.token.token.Word.{Word}
use Rattle.tree.specs.declared.token.token.Word.TheVariants as word
use Rattle.tree.specs.declared.token.token.Symbol.{Symbol}
use Rattle.tree.specs.declared.token.token.Symbol.TheVariants as symbol
use Rattle.tree.specs.declared.token.token.Token.{Token}
use Rattle.tree.specs.declared.token.token.Token.TheVariants as token

abbrev pub type_text : Ty → List ℕ
type_text ty.U8 = codes "u8"
type_text ty.U16 = codes "u16"
type_text ty.U32 = codes "u32"
type_text ty.I8 = codes "i8"
type_text ty.I16 = codes "i16"
type_text ty.I32 = codes "i32"

abbrev pub word_text : Word → List ℕ
word_text word.Pipeline = codes "pipeline"
word_text word.Input = codes "input"
word_text word.Func = codes "func"
word_text word.Update = codes "update"
word_text word.Over = codes "over"
word_text word.Output = codes "output"
word_text word.Min = codes "min"
word_text word.Max = codes "max"
word_text word.Clamp = codes "clamp"
word_text word.Select = codes "select"
word_text word.Not = codes "not"
word_text word.All = codes "all"
word_text word.Any = codes "any"

abbrev pub symbol_text : Symbol → List ℕ
symbol_text symbol.DotDot = codes ".."
symbol_text symbol.EqualsEquals = codes "=="
symbol_text symbol.NotEquals = codes "!="
symbol_text symbol.LessEquals = codes "<="
symbol_text symbol.GreaterEquals = codes ">="
symbol_text symbol.Plus = codes "+"
symbol_text symbol.Minus = codes "-"
symbol_text symbol.Star = codes "*"
symbol_text symbol.Slash = codes "/"
symbol_text symbol.Percent = codes "%"
symbol_text symbol.LeftParen = codes "("
symbol_text symbol.RightParen = codes ")"
symbol_text symbol.LeftBracket = codes "["
symbol_text symbol.RightBracket = codes "]"
symbol_text symbol.Comma = codes ","
symbol_text symbol.Semicolon = codes ";"
symbol_text symbol.Dot = codes "."
symbol_text symbol.Equals = codes "="
symbol_text symbol.Less = codes "<"
symbol_text symbol.Greater = codes ">"

-- ---- bytes

abbrev pub is_digit : ℕ → Bool
is_digit b = nat_le 48 b && nat_le b 57

-- a letter, a digit or `_`
abbrev pub is_word_byte : ℕ → Bool
is_word_byte b = is_digit b || nat_le 65 b && nat_le b 90 || nat_le 97 b && nat_le b 122 || b == 95

-- letters, digits and `_`, of which the first is no digit
pub record IsWord (text : List ℕ) : Type 0 where
  pub some : 0 < length text
  pub first : is_digit (slice_index text 0) ≡ false
  pub bytes : AllPass is_word_byte text

-- ---- tokens

-- the type behind a number, if one stands there
abbrev pub suffix_text : Option Ty → List ℕ
suffix_text None = []
suffix_text (Some t) = type_text t

-- the token is written so
abbrev pub IsSpelled : Token → List ℕ → Type 0
IsSpelled (token.Name name) text = (text ≡ name) × IsWord text
IsSpelled token.LongName text = (16 < length text) × IsWord text
IsSpelled (token.Number n) text = text ≡ decimal n.value ++ suffix_text n.ty
IsSpelled (token.Type t) text = text ≡ type_text t
IsSpelled (token.Word w) text = text ≡ word_text w
IsSpelled (token.Symbol s) text = text ≡ symbol_text s
