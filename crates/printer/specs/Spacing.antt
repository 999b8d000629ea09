-- How tokens are put into a text: what stands between one and the next.
use Rattle.std.specs.Prelude.{ℕ, Bool, true, false, nat_le, if◌then◌else◌, List, [], ◌∷◌, ◌++◌, codes}
use Rattle.std.specs.Fmt.{decimal}
use Rattle.tree.specs.declared.token.token.Symbol.{Symbol}
use Rattle.tree.specs.declared.token.token.Symbol.TheVariants as symbol
use Rattle.tree.specs.declared.token.token.Word.{Word}
use Rattle.tree.specs.declared.token.token.Word.TheVariants as word
use Rattle.tree.specs.declared.token.token.Token.{Token}
use Rattle.tree.specs.declared.token.token.Token.TheVariants as token
use Rattle.tree.specs.Token.Spelling.{type_text, word_text, symbol_text, suffix_text}
use Rattle.tree.specs.Token.Lexical.{largest}
use Rattle.spelling.specs.Words.Fitting.{is_name}

-- whether the token has a text that is read as it
abbrev pub has_text : Token → Bool
has_text (token.Name x) = is_name x
has_text token.LongName = false
has_text (token.Number n) = nat_le n.value (largest n.ty)
has_text _ = true

abbrev pub token_text : Token → List ℕ
token_text (token.Name x) = x
token_text token.LongName = []
token_text (token.Number n) = decimal n.value ++ suffix_text n.ty
token_text (token.Type t) = type_text t
token_text (token.Word w) = word_text w
token_text (token.Symbol s) = symbol_text s

-- where an operand can end
abbrev pub ends_operand : Token → Bool
ends_operand (token.Name x) = true
ends_operand (token.Number n) = true
ends_operand (token.Symbol symbol.RightParen) = true
ends_operand (token.Symbol symbol.RightBracket) = true
ends_operand _ = false

-- what stands before the token, behind a word or a bracket that closes: nothing before brackets, commas, semicolons and ranges' dots
abbrev pub gap_before : Token → List ℕ
gap_before (token.Symbol symbol.LeftParen) = []
gap_before (token.Symbol symbol.RightParen) = []
gap_before (token.Symbol symbol.LeftBracket) = []
gap_before (token.Symbol symbol.RightBracket) = []
gap_before (token.Symbol symbol.Comma) = []
gap_before (token.Symbol symbol.Semicolon) = []
gap_before (token.Symbol symbol.DotDot) = []
gap_before _ = codes " "

-- what stands behind a bracket that closes: a blank before the left side of an update
abbrev pub gap_closed : Token → List ℕ
gap_closed (token.Symbol symbol.LeftBracket) = codes " "
gap_closed next = gap_before next

-- what stands behind a type: a blank before a size, and before the variables of a function, whose name ended before its type
abbrev pub gap_typed : Bool → Token → List ℕ
gap_typed operand (token.Symbol symbol.LeftBracket) = codes " "
gap_typed operand (token.Symbol symbol.LeftParen) = if operand then codes " " else []
gap_typed operand next = gap_before next

-- what stands behind a word: a blank before the variables of a reduction
abbrev pub gap_worded : Word → Token → List ℕ
gap_worded word.Over next = codes " "
gap_worded _ next = gap_before next

-- each statement has a line of its own; updates are indented
abbrev pub gap_stated : Token → List ℕ
gap_stated (token.Word word.Update) = codes "\n    "
gap_stated _ = codes "\n"

-- what stands behind a symbol; `operand` is whether an operand ended before it, so that a minus is an operator
abbrev pub gap_behind : Bool → Symbol → Token → List ℕ
gap_behind operand symbol.LeftParen next = []
gap_behind operand symbol.LeftBracket next = []
gap_behind operand symbol.DotDot next = []
gap_behind operand symbol.RightParen next = gap_closed next
gap_behind operand symbol.RightBracket next = gap_before next
gap_behind operand symbol.Minus next = if operand then codes " " else []
gap_behind operand symbol.Semicolon next = gap_stated next
gap_behind operand _ next = codes " "

-- what stands between a token and the next; `operand` is whether an operand ended before the first
abbrev pub gap_between : Bool → Token → Token → List ℕ
gap_between operand (token.Symbol s) next = gap_behind operand s next
gap_between operand (token.Type t) next = gap_typed operand next
gap_between operand (token.Word w) next = gap_worded w next
gap_between operand _ next = gap_before next

abbrev pub is_dots : Token → Bool
is_dots (token.Symbol symbol.DotDot) = true
is_dots _ = false

-- whether an operand ended before a minus that is an operator: a range's dots follow its lower end, and before that a minus is its sign
abbrev pub operand_before : Bool → List Token → Bool
operand_before operand [] = operand
operand_before operand (t ∷ ts) = if is_dots t then false else operand

-- what stands behind a token before these: the last line is ended
abbrev pub gap_after : Bool → Token → List Token → List ℕ
gap_after operand t [] = codes "\n"
gap_after operand t (next ∷ ts) = gap_between (operand_before operand ts) t next

-- the text of tokens
abbrev pub text_of : Bool → List Token → List ℕ
text_of operand [] = []
text_of operand (t ∷ ts) = token_text t ++ (gap_after operand t ts ++ text_of (ends_operand t) ts)
