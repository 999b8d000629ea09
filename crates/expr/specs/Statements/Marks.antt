-- Where the parts of a file stand among the tokens of its text.
use Rattle.std.specs.Prelude.{◌≡◌, ℕ, Bool, true, false, List, [], ◌∷◌, ◌++◌, Option, Some, None}
use Rattle.std.specs.List.{flat_map}
use Rattle.numeric.specs.declared.ty.Ty.{Ty}
use Rattle.tree.specs.declared.token.span.Span.{Span}
use Rattle.tree.specs.declared.token.token.Symbol.TheVariants as symbol
use Rattle.tree.specs.declared.token.token.Word.TheVariants as word
use Rattle.tree.specs.declared.token.token.Token.{Token}
use Rattle.tree.specs.declared.token.token.Token.TheVariants as token
use Rattle.tree.specs.declared.token.token.Lexeme.{Lexeme}
use Rattle.tree.specs.Token.Lexical.{AreLexemes}
use Rattle.tree.specs.Token.Cursor.{place}
use Rattle.tree.specs.declared.expr.Expr.{Expr}
use Rattle.expr.specs.Grammar.{sign}
use Rattle.expr.specs.Text.{last_end}
use Rattle.expr.specs.Places.{Form, Covers, One, Part, Stands}
use Rattle.expr.specs.declared.statements.statement.Named.{Named}
use Rattle.expr.specs.declared.statements.statement.Extent.{Extent}
use Rattle.expr.specs.declared.statements.statement.Bound.{Bound}
use Rattle.expr.specs.declared.statements.statement.Domain.{Domain}
use Rattle.expr.specs.declared.statements.statement.InputStatement.{InputStatement}
use Rattle.expr.specs.declared.statements.statement.FunctionStatement.{FunctionStatement}
use Rattle.expr.specs.declared.statements.statement.UpdateStatement.{UpdateStatement}
use Rattle.expr.specs.declared.statements.statement.Statement.{Statement}
use Rattle.expr.specs.declared.statements.statement.Statement.TheVariants.{Function, Update}
use Rattle.expr.specs.declared.statements.statement.OutputStatement.{OutputStatement}
use Rattle.expr.specs.declared.statements.statement.File.{File}
use Rattle.expr.specs.Statements.View.{named_text}

-- what a token is, and where it stands, or begins, or ends; or an expression
pub data Mark : Type 0 where
  stands : Token → Span → Mark
  begins : Token → ℕ → Mark
  ends : Token → ℕ → Mark
  spells : Expr → Mark

-- the tokens are the one token; or they are the expression, with the brackets round it, and each of its parts has the place of its tokens
abbrev pub Marks : Mark → Form
Marks (stands t s) ls = One t ls × Covers ls s
Marks (begins t n) ls = One t ls × ((place ls 0).start ≡ n)
Marks (ends t n) ls = One t ls × (last_end ls 0 ≡ n)
Marks (spells e) ls = Part (Stands e) ls

-- some of the tokens are the one, and some behind them the other
pub record Among (P Q : Form) (ls : List Lexeme) : Type 0 where
  pub before : List Lexeme
  pub here : List Lexeme
  pub behind : List Lexeme
  pub is : ls ≡ before ++ (here ++ behind)
  pub this : P here
  pub that : Q behind

-- some of the tokens have the marks, in their order
abbrev pub AreMarked : List Mark → Form
AreMarked [] ls = Unit {0}
AreMarked (m ∷ ms) ls = Among (Marks m) (AreMarked ms) ls

-- the same of the tokens before the rest
pub record StandIn (ms : List Mark) (ls rest : List Lexeme) : Type 0 where
  pub taken : List Lexeme
  pub front : ls ≡ taken ++ rest
  pub marked : AreMarked ms taken

-- ---- the marks of parts

abbrev pub named_marks : Named → List Mark
named_marks n = stands (token.Name (named_text n)) n.span ∷ []

abbrev pub number_token : ℕ → Token
number_token n = token.Number (record { value = n; ty = None })

abbrev pub extent_marks : Extent → List Mark
extent_marks e = stands (number_token e.number) e.span ∷ []

-- a sign begins the bound, and a number ends it
abbrev pub signed_marks : Bool → ℕ → Span → List Mark
signed_marks true n s = begins (sign symbol.Minus) s.start ∷ ends (number_token n) s.end ∷ []
signed_marks false n s = stands (number_token n) s ∷ []

abbrev pub bound_marks : Bound → List Mark
bound_marks b = signed_marks b.negative b.number b.span

abbrev pub domain_marks : Domain → List Mark
domain_marks d = named_marks d.variable ++ bound_marks d.low ++ bound_marks d.high

abbrev pub type_marks : Ty → Span → List Mark
type_marks t s = stands (token.Type t) s ∷ []

abbrev pub input_marks : InputStatement → List Mark
input_marks s = named_marks s.name ++ type_marks s.ty s.ty_span ++ flat_map extent_marks s.extents.items

abbrev pub expression_marks : Expr → List Mark
expression_marks e = spells e ∷ []

abbrev pub function_marks : FunctionStatement → List Mark
function_marks s = named_marks s.name ++ type_marks s.ty s.ty_span ++ flat_map named_marks s.variables.items ++ expression_marks s.value

-- behind the word
abbrev pub update_marks : UpdateStatement → List Mark
update_marks s = named_marks s.name ++ flat_map domain_marks s.domains.items ++ flat_map expression_marks s.at.items ++ expression_marks s.value

abbrev pub statement_marks : Statement → List Mark
statement_marks (Function s) = function_marks s
statement_marks (Update s) = stands (token.Word word.Update) s.word ∷ update_marks s

abbrev pub found_marks : Option Statement → List Mark
found_marks None = []
found_marks (Some s) = statement_marks s

abbrev pub output_marks : OutputStatement → List Mark
output_marks s = named_marks s.name ++ flat_map extent_marks s.extents.items

abbrev pub file_marks : File → List Mark
file_marks f = named_marks f.name ++ input_marks f.input ++ flat_map statement_marks f.statements.items ++ output_marks f.output

-- each name, number and type of the file outside of its expressions, and each word of an update, is a token of the text
-- at the place that the file gives it; each expression is tokens of the text, and each of its parts has the place of its
-- tokens; and these come in the file's order
pub record PartsStand (text : List ℕ) (f : File) : Type 0 where
  pub lexemes : List Lexeme
  pub tokens : AreLexemes text lexemes
  pub marked : AreMarked (file_marks f) lexemes
