-- The grammar of algorithm texts. A file whose expressions are derivations of the grammar of expressions has its
-- tokens and what it stands for.
use Rattle.std.specs.Prelude.{◌≡◌, ℕ, ◌<◌, Bool, true, false, List, [], ◌∷◌, length, None}
use Rattle.std.specs.List.{AllByRecursion}
use Rattle.tree.specs.declared.token.token.Symbol.TheVariants as symbol
use Rattle.tree.specs.declared.token.token.Word.TheVariants as word
use Rattle.tree.specs.declared.token.token.Token.{Token}
use Rattle.tree.specs.declared.token.token.Token.TheVariants as token
use Rattle.tree.specs.declared.token.token.Lexeme.{Lexeme}
use Rattle.tree.specs.Token.Cursor.{kinds}
use Rattle.tree.specs.Token.Lexical.{AreLexemes}
use Rattle.tree.specs.Term.{Term}
use Rattle.expr.specs.Grammar.{sign, Sums, sums_then, sums_term}
use Rattle.expr.specs.Text.{IsSmall as IsSmallTerm}
use Rattle.expr.specs.Statements.Text.{BoundText, DomainText, InputText, FunctionText, UpdateText, StatementText, function, update, OutputText, FileText, file_with}

-- ---- tokens, and then the rest

-- further items, each behind a comma
abbrev pub others_then : {A : Type 0} → (A → List Token → List Token) → List A → List Token → List Token
others_then item [] rest = rest
others_then item (x ∷ xs) rest = sign symbol.Comma ∷ item x (others_then item xs rest)

-- items with commas between them
abbrev pub items_then : {A : Type 0} → (A → List Token → List Token) → List A → List Token → List Token
items_then item [] rest = rest
items_then item (x ∷ xs) rest = item x (others_then item xs rest)

abbrev pub name_then : List ℕ → List Token → List Token
name_then x rest = token.Name x ∷ rest

abbrev pub number_then : ℕ → List Token → List Token
number_then n rest = token.Number (record { value = n; ty = None }) ∷ rest

abbrev pub signed_then : Bool → ℕ → List Token → List Token
signed_then true n rest = sign symbol.Minus ∷ number_then n rest
signed_then false n rest = number_then n rest

-- bound = ["-"] number
abbrev pub bound_then : BoundText → List Token → List Token
bound_then b rest = signed_then b.negative b.number rest

-- dom = name bound ".." bound
abbrev pub domain_then : DomainText → List Token → List Token
domain_then d rest = token.Name d.variable ∷ bound_then d.low (sign symbol.DotDot ∷ bound_then d.high rest)

-- size = "[" number {"," number} "]"
abbrev pub size_then : List ℕ → List Token → List Token
size_then ns rest = sign symbol.LeftBracket ∷ items_then number_then ns (sign symbol.RightBracket ∷ rest)

-- [ "over" "(" dom {"," dom} ")" ]
abbrev pub over_then : List DomainText → List Token → List Token
over_then [] rest = rest
over_then (d ∷ ds) rest = token.Word word.Over ∷ sign symbol.LeftParen ∷ items_then domain_then (d ∷ ds) (sign symbol.RightParen ∷ rest)

-- "=" expr ";"
abbrev pub right_side_then : Sums → List Token → List Token
right_side_then e rest = sign symbol.Equals ∷ sums_then e (sign symbol.Semicolon ∷ rest)

-- input = "input" name type size ";"
abbrev pub input_then : InputText → List Token → List Token
input_then s rest = token.Word word.Input ∷ token.Name s.name ∷ token.Type s.ty ∷ size_then s.extents (sign symbol.Semicolon ∷ rest)

-- func = "func" name type "(" name {"," name} ")" "=" expr ";"
abbrev pub function_then : FunctionText Sums → List Token → List Token
function_then s rest = token.Name s.name ∷ token.Type s.ty ∷ sign symbol.LeftParen ∷ items_then name_then s.variables (sign symbol.RightParen ∷ right_side_then s.value rest)

-- update = "update" name [ "over" "(" dom {"," dom} ")" ] "[" expr {"," expr} "]" "=" expr ";"
abbrev pub update_then : UpdateText Sums → List Token → List Token
update_then s rest = token.Name s.name ∷ over_then s.domains (sign symbol.LeftBracket ∷ items_then sums_then s.at (sign symbol.RightBracket ∷ right_side_then s.value rest))

abbrev pub statement_then : StatementText Sums → List Token → List Token
statement_then (function s) rest = token.Word word.Func ∷ function_then s rest
statement_then (update s) rest = token.Word word.Update ∷ update_then s rest

abbrev pub statements_then : List (StatementText Sums) → List Token → List Token
statements_then [] rest = rest
statements_then (s ∷ ss) rest = statement_then s (statements_then ss rest)

-- output = "output" name size ";"
abbrev pub output_then : OutputText → List Token → List Token
output_then s rest = token.Word word.Output ∷ token.Name s.name ∷ size_then s.extents (sign symbol.Semicolon ∷ rest)

-- file = "pipeline" name ";" input { func { update } } output
abbrev pub file_then : FileText Sums → List Token
file_then f = token.Word word.Pipeline ∷ token.Name f.name ∷ sign symbol.Semicolon ∷ input_then f.input (statements_then f.statements (output_then f.output []))

-- ---- what the grammar asks beside: an item at least in each list that is not left out, and a function before an update

abbrev pub HasParts : StatementText Sums → Type 0
HasParts (function s) = 0 < length s.variables
HasParts (update s) = 0 < length s.at

-- no update stands before the first function
abbrev pub IsLed : {E : Type 0} → List (StatementText E) → Type 0
IsLed [] = Unit {0}
IsLed (function s ∷ ss) = Unit {0}
IsLed (update s ∷ ss) = ⊥

pub record IsWhole (f : FileText Sums) : Type 0 where
  pub input : 0 < length f.input.extents
  pub led : IsLed f.statements
  pub statements : AllByRecursion HasParts f.statements
  pub output : 0 < length f.output.extents

-- ---- what tokens and texts stand for

-- The tokens are put together by the grammar's rules, and stand for the file.
pub record StandsFor (tokens : List Token) (file : FileText Term) : Type 0 where
  pub rules : FileText Sums
  pub whole : IsWhole rules
  pub spelled : tokens ≡ file_then rules
  pub is : file_with sums_term rules ≡ file

-- The text has tokens that stand for the file.
pub record IsTextOf (text : List ℕ) (file : FileText Term) : Type 0 where
  pub lexemes : List Lexeme
  pub tokens : AreLexemes text lexemes
  pub stands : StandsFor (kinds lexemes) file

-- each expression of the statement has at most 512 nodes and 64 levels
abbrev pub IsSmallStatement : StatementText Term → Type 0
IsSmallStatement (function s) = IsSmallTerm s.value
IsSmallStatement (update s) = AllByRecursion IsSmallTerm s.at × IsSmallTerm s.value

-- each expression of the file does
abbrev pub IsSmall : FileText Term → Type 0
IsSmall f = AllByRecursion IsSmallStatement f.statements
