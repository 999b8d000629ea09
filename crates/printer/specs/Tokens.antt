-- The tokens of an algorithm's canonical text: brackets only where the grammar wants them, and a type behind each literal but
-- those of i32.
use Rattle.std.specs.Prelude.{ℕ, zero, suc, nat_lt, if◌then◌else◌, ℤ, pos, negsuc, List, [], ◌∷◌, ◌++◌, Option, Some, None}
use Rattle.std.specs.List.{flat_map}
use Rattle.numeric.specs.declared.ty.Ty.{Ty}
use Rattle.numeric.specs.declared.ty.Ty.TheVariants as ty
use Rattle.numeric.specs.declared.op.Op.{Op}
use Rattle.numeric.specs.declared.op.Op.TheVariants as op
use Rattle.tree.specs.declared.token.token.Symbol.{Symbol}
use Rattle.tree.specs.declared.token.token.Symbol.TheVariants as symbol
use Rattle.tree.specs.declared.token.token.Word.{Word}
use Rattle.tree.specs.declared.token.token.Word.TheVariants as word
use Rattle.tree.specs.declared.token.token.Token.{Token}
use Rattle.tree.specs.declared.token.token.Token.TheVariants as token
use Rattle.tree.specs.Term.{Term, Number, Name, Call, Minus, Binary, Clamp, Cast, Choice, Terms, End, More, Test, Compares, Fails, Both, Either, indices}
use Rattle.meaning.specs.Algorithm.{Range, Change, Function, Algorithm}
use Rattle.expr.specs.Grammar.{sign, comparison_symbol}
use Rattle.spelling.specs.Words.Fitting.{is_name}

-- ---- single tokens

-- a name, or a token that has no text
abbrev pub name_token : List ℕ → Token
name_token x = if is_name x then token.Name x else token.LongName

-- the type behind a literal, which an i32 leaves out
abbrev pub suffix : Ty → Option Ty
suffix ty.I32 = None
suffix t = Some t

-- a number from 0 on in 32 bits, or a token that has no text
abbrev pub literal_token : Ty → ℤ → Token
literal_token t (pos n) = if nat_lt n 4294967296 then token.Number (record { value = n; ty = suffix t }) else token.LongName
literal_token t (negsuc n) = token.LongName

abbrev pub number_token : ℕ → Token
number_token n = token.Number (record { value = n; ty = None })

abbrev pub one_name : List ℕ → List Token
one_name x = name_token x ∷ []

abbrev pub one_number : ℕ → List Token
one_number n = number_token n ∷ []

-- what stands before an item of a list, by its place
abbrev pub comma_before : ℕ → List Token
comma_before zero = []
comma_before (suc n) = sign symbol.Comma ∷ []

-- an item behind a comma
abbrev pub behind_comma : {X : Type 0} → (X → List Token) → X → List Token
behind_comma item x = sign symbol.Comma ∷ item x

-- items with a comma between one and the next
abbrev pub listed : {X : Type 0} → (X → List Token) → List X → List Token
listed item [] = []
listed item (x ∷ xs) = item x ++ flat_map (behind_comma item) xs

abbrev pub opened : List Token
opened = sign symbol.LeftParen ∷ []

-- the tokens between round brackets
abbrev pub in_brackets : List Token → List Token
in_brackets ts = sign symbol.LeftParen ∷ (ts ++ sign symbol.RightParen ∷ [])

-- ---- expressions

-- how strongly an operator binds: 0 a sum, 1 a product, 2 what stands alone
abbrev pub op_rank : Op → ℕ
op_rank op.Add = 0
op_rank op.Sub = 0
op_rank op.Mul = 1
op_rank op.Div = 1
op_rank op.Rem = 1
op_rank op.Min = 2
op_rank op.Max = 2

abbrev pub rank : Term → ℕ
rank (Binary o a b) = op_rank o
rank _ = 2

-- with brackets round what binds less than is wanted
abbrev pub placed : ℕ → ℕ → List Token → List Token
placed wanted own ts = if nat_lt own wanted then in_brackets ts else ts

abbrev pub op_symbol : Op → Symbol
op_symbol op.Add = symbol.Plus
op_symbol op.Sub = symbol.Minus
op_symbol op.Mul = symbol.Star
op_symbol op.Div = symbol.Slash
op_symbol op.Rem = symbol.Percent
op_symbol op.Min = symbol.Comma
op_symbol op.Max = symbol.Comma

-- what stands before the left operand and behind the right one
abbrev pub op_head : Op → List Token
op_head op.Min = token.Word word.Min ∷ opened
op_head op.Max = token.Word word.Max ∷ opened
op_head _ = []

abbrev pub op_tail : Op → List Token
op_tail op.Min = sign symbol.RightParen ∷ []
op_tail op.Max = sign symbol.RightParen ∷ []
op_tail _ = []

-- how strongly the operands have to bind: operators group from the left
abbrev pub op_left : Op → ℕ
op_left op.Mul = 1
op_left op.Div = 1
op_left op.Rem = 1
op_left _ = 0

abbrev pub op_right : Op → ℕ
op_right op.Add = 1
op_right op.Sub = 1
op_right op.Mul = 2
op_right op.Div = 2
op_right op.Rem = 2
op_right _ = 0

-- two operands, each with how strongly it binds
abbrev pub operation : Op → ℕ → List Token → ℕ → List Token → List Token
operation o ra a rb b = op_head o ++ (placed (op_left o) ra a ++ sign (op_symbol o) ∷ (placed (op_right o) rb b ++ op_tail o))

-- a word, and parts in brackets with a comma between
abbrev pub pair : Word → List Token → List Token → List Token
pair w a b = token.Word w ∷ sign symbol.LeftParen ∷ (a ++ sign symbol.Comma ∷ (b ++ sign symbol.RightParen ∷ []))

abbrev pub triple : Word → List Token → List Token → List Token → List Token
triple w a b c = token.Word w ∷ sign symbol.LeftParen ∷ (a ++ sign symbol.Comma ∷ (b ++ sign symbol.Comma ∷ (c ++ sign symbol.RightParen ∷ [])))

-- the name of what is called; a call without indices has no text
abbrev pub called_token : List ℕ → Terms → Token
called_token x End = token.LongName
called_token x (More a rest) = name_token x

abbrev mutual
  pub term_tokens : Term → List Token
  term_tokens (Number t n) = literal_token t n ∷ []
  term_tokens (Name x) = name_token x ∷ []
  term_tokens (Call x at) = called_token x at ∷ sign symbol.LeftBracket ∷ (row_tokens at ++ sign symbol.RightBracket ∷ [])
  term_tokens (Minus a) = sign symbol.Minus ∷ placed 2 (rank a) (term_tokens a)
  term_tokens (Binary o a b) = operation o (rank a) (term_tokens a) (rank b) (term_tokens b)
  term_tokens (Clamp a l h) = triple word.Clamp (term_tokens a) (term_tokens l) (term_tokens h)
  term_tokens (Cast t a) = token.Type t ∷ in_brackets (term_tokens a)
  term_tokens (Choice c a b) = triple word.Select (test_tokens c) (term_tokens a) (term_tokens b)

  pub test_tokens : Test → List Token
  test_tokens (Compares by a b) = term_tokens a ++ sign (comparison_symbol by) ∷ term_tokens b
  test_tokens (Fails c) = token.Word word.Not ∷ in_brackets (test_tokens c)
  test_tokens (Both c d) = pair word.All (test_tokens c) (test_tokens d)
  test_tokens (Either c d) = pair word.Any (test_tokens c) (test_tokens d)

  -- indices with a comma between one and the next
  pub row_tokens : Terms → List Token
  row_tokens End = []
  row_tokens (More a rest) = term_tokens a ++ others_tokens rest

  -- the indices after the first, each behind a comma
  pub others_tokens : Terms → List Token
  others_tokens End = []
  others_tokens (More a rest) = sign symbol.Comma ∷ (term_tokens a ++ others_tokens rest)

-- ---- statements

abbrev pub ended : List Token
ended = sign symbol.Semicolon ∷ []

-- a word of the grammar and a name
abbrev pub declared : Word → List ℕ → List Token
declared w x = token.Word w ∷ name_token x ∷ []

abbrev pub size_tokens : List ℕ → List Token
size_tokens ns = sign symbol.LeftBracket ∷ (listed one_number ns ++ sign symbol.RightBracket ∷ [])

-- an end of a range
abbrev pub bound_tokens : ℤ → List Token
bound_tokens (pos n) = number_token n ∷ []
bound_tokens (negsuc n) = sign symbol.Minus ∷ number_token (suc n) ∷ []

-- both ends with dots between
abbrev pub bounds_tokens : ℤ → ℤ → List Token
bounds_tokens low high = bound_tokens low ++ sign symbol.DotDot ∷ bound_tokens high

abbrev pub range_tokens : Range → List Token
range_tokens d = one_name d.variable ++ bounds_tokens d.low d.high

-- what stands behind the left side
abbrev pub right_side_tokens : Term → List Token
right_side_tokens e = sign symbol.Equals ∷ (term_tokens e ++ sign symbol.Semicolon ∷ [])

abbrev pub input_tokens : List ℕ → Ty → List ℕ → List Token
input_tokens x t ns = token.Word word.Input ∷ name_token x ∷ token.Type t ∷ (size_tokens ns ++ sign symbol.Semicolon ∷ [])

abbrev pub output_tokens : List ℕ → List ℕ → List Token
output_tokens x ns = token.Word word.Output ∷ name_token x ∷ (size_tokens ns ++ sign symbol.Semicolon ∷ [])

-- the pure definition of a function
abbrev pub pure_tokens : List ℕ → Ty → List (List ℕ) → Term → List Token
pure_tokens x t vs e =
    token.Word word.Func ∷ name_token x ∷ token.Type t ∷ sign symbol.LeftParen ∷ (listed one_name vs ++ sign symbol.RightParen ∷ right_side_tokens e)

-- the domain of an update
abbrev pub over_tokens : List Range → List Token
over_tokens ds = token.Word word.Over ∷ sign symbol.LeftParen ∷ (listed range_tokens ds ++ sign symbol.RightParen ∷ [])

-- the left side of an update, behind its domain
abbrev pub left_tokens : List Term → List Token
left_tokens at = sign symbol.LeftBracket ∷ (row_tokens (indices at) ++ sign symbol.RightBracket ∷ [])

-- an update of the function of this name
abbrev pub change_tokens : List ℕ → Change → List Token
change_tokens x u = declared word.Update x ++ (over_tokens u.ranges ++ (left_tokens u.at ++ right_side_tokens u.value))

abbrev pub function_tokens : Function → List Token
function_tokens f = pure_tokens f.name f.ty f.variables f.value ++ flat_map (change_tokens f.name) f.changes

abbrev pub algorithm_tokens : Algorithm → List Token
algorithm_tokens a =
    token.Word word.Pipeline ∷ name_token a.name ∷ sign symbol.Semicolon ∷ (input_tokens a.input a.input_ty a.input_extents
    ++ (flat_map function_tokens a.functions ++ output_tokens a.output a.output_extents))
