-- Where an expression and its parts stand among the tokens that it is read from.
use Rattle.std.specs.Prelude.{◌≡◌, ◌⊎◌, ℕ, zero, suc, ℤ, List, [], ◌∷◌, ◌++◌, Option, Some, None, string_bytes}
use Rattle.numeric.specs.declared.ty.Ty.{Ty}
use Rattle.numeric.specs.declared.op.Op.{Op}
use Rattle.numeric.specs.declared.op.Op.TheVariants as op
use Rattle.numeric.specs.declared.op.Comparison.{Comparison}
use Rattle.tree.specs.declared.token.span.Span.{Span}
use Rattle.tree.specs.declared.token.token.Symbol.{Symbol}
use Rattle.tree.specs.declared.token.token.Symbol.TheVariants as symbol
use Rattle.tree.specs.declared.token.token.Word.{Word}
use Rattle.tree.specs.declared.token.token.Word.TheVariants as word
use Rattle.tree.specs.declared.token.token.Literal.{Literal}
use Rattle.tree.specs.declared.token.token.Token.{Token}
use Rattle.tree.specs.declared.token.token.Token.TheVariants as token
use Rattle.tree.specs.declared.token.token.Lexeme.{Lexeme}
use Rattle.tree.specs.Token.Lexical.{AreLexemes}
use Rattle.tree.specs.declared.expr.Expr.{Expr, Literal as Literal', Variable, Call', Negate', Binary', Clamp', Cast', Select', Row_of-Expr, end_of-Expr, more_of-Expr}
use Rattle.tree.specs.declared.expr.Cond.{Cond, Compare, Not', All', Any'}
use Rattle.tree.specs.Term.{Number}
use Rattle.expr.specs.declared.parser.Level.{Level}
use Rattle.expr.specs.declared.measured.Joint.{Joint}
use Rattle.expr.specs.declared.measured.Joint.TheVariants as joint
use Rattle.expr.specs.Parsing.{literal, operator, comparison}
use Rattle.expr.specs.Grammar.{sign}
use Rattle.expr.specs.Text.{last_end}

-- what some tokens are
abbrev pub Form : Type 1
Form = List Lexeme → Type 0

-- the tokens, one at least, begin and end where the place does
abbrev pub Covers : List Lexeme → Span → Type 0
Covers [] s = ⊥
Covers (l ∷ ls) s = s ≡ record { start = l.span.start; end = last_end ls l.span.end }

-- ---- forms

-- the one and behind it the other
pub record Then (P Q : Form) (ls : List Lexeme) : Type 0 where
  pub first : List Lexeme
  pub second : List Lexeme
  pub is : ls ≡ first ++ second
  pub this : P first
  pub that : Q second

infixr 5 ◌⨾◌
abbrev pub ◌⨾◌ : Form → Form → Form
(P ⨾ Q) ls = Then P Q ls

-- this token alone
pub record One (t : Token) (ls : List Lexeme) : Type 0 where
  pub span : Span
  pub is : ls ≡ record { token = t; span = span } ∷ []

abbrev pub opens : Form
opens = One (sign symbol.LeftParen)

abbrev pub closes : Form
closes = One (sign symbol.RightParen)

abbrev pub comma : Form
comma = One (sign symbol.Comma)

-- a number as it is written, of this type and value
pub record NumberOf (t : Ty) (n : ℤ) (ls : List Lexeme) : Type 0 where
  pub written : Literal
  pub value : literal written ≡ Number t n
  pub is : One (token.Number written) ls

-- the sign of the operator
pub record OperatorOf (o : Op) (ls : List Lexeme) : Type 0 where
  pub level : Level
  pub symbol : Symbol
  pub means : operator level symbol ≡ Some o
  pub is : One (sign symbol) ls

-- the sign of the comparison
pub record ComparisonOf (b : Comparison) (ls : List Lexeme) : Type 0 where
  pub symbol : Symbol
  pub means : comparison symbol ≡ Some b
  pub is : One (sign symbol) ls

abbrev pub extreme : Word → Option Op
extreme word.Min = Some op.Min
extreme word.Max = Some op.Max
extreme _ = None

-- the word of the operator
pub record ExtremeOf (o : Op) (ls : List Lexeme) : Type 0 where
  pub word : Word
  pub means : extreme word ≡ Some o
  pub is : One (token.Word word) ls

abbrev pub joint_word : Joint → Token
joint_word joint.All = token.Word word.All
joint_word joint.Any = token.Word word.Any

-- behind the name, in brackets
abbrev pub of_one : Form → Form → Form
of_one F A = F ⨾ opens ⨾ A ⨾ closes

abbrev pub of_two : Form → Form → Form → Form
of_two F A B = F ⨾ opens ⨾ A ⨾ comma ⨾ B ⨾ closes

abbrev pub of_three : Form → Form → Form → Form → Form
of_three F A B C = F ⨾ opens ⨾ A ⨾ comma ⨾ B ⨾ comma ⨾ C ⨾ closes

-- so many brackets round it
abbrev pub InBrackets : ℕ → Form → Form
InBrackets zero P = P
InBrackets (suc n) P = opens ⨾ InBrackets n P ⨾ closes

pub record Part (P : Form) (ls : List Lexeme) : Type 0 where
  pub brackets : ℕ
  pub is : InBrackets brackets P ls

-- each of the tokens is an opening bracket
abbrev pub AreOpening : List Lexeme → Type 0
AreOpening [] = Unit {0}
AreOpening (l ∷ ls) = (l.token ≡ sign symbol.LeftParen) × AreOpening ls

-- a comma behind an index, or the closing bracket behind the last
abbrev pub Separates : Form
Separates ls = comma ls ⊎ One (sign symbol.RightBracket) ls

abbrev pub signed : Form → Form
signed A = One (sign symbol.Minus) ⨾ Part A

abbrev pub operated : Op → Form → Form → Form
operated o A B = Part A ⨾ OperatorOf o ⨾ Part B

abbrev pub compared : Comparison → Form → Form → Form
compared b A B = Part A ⨾ ComparisonOf b ⨾ Part B

abbrev pub called : List ℕ → Form → Form
called name At = One (token.Name name) ⨾ One (sign symbol.LeftBracket) ⨾ At

-- ---- expressions

abbrev mutual
  -- the tokens are those of the expression, from its first to its last, and so of each of its parts
  pub Stands : Expr → List Lexeme → Type 0
  Stands (Literal' t n s) ls = Covers ls s × NumberOf t n ls
  Stands (Variable name s) ls = Covers ls s × One (token.Name (string_bytes name)) ls
  Stands (Call' name shape at s) ls = Covers ls s × called (string_bytes name) (RowStands at) ls
  Stands (Negate' p a s) ls = Covers ls s × signed (Stands a) ls
  Stands (Binary' o p a q b s) ls = Covers ls s × (operated o (Stands a) (Stands b) ls ⊎ of_two (ExtremeOf o) (Part (Stands a)) (Part (Stands b)) ls)
  Stands (Clamp' p a q l r h s) ls = Covers ls s × of_three (One (token.Word word.Clamp)) (Part (Stands a)) (Part (Stands l)) (Part (Stands h)) ls
  Stands (Cast' t p a s) ls = Covers ls s × of_one (One (token.Type t)) (Part (Stands a)) ls
  Stands (Select' p c q a r b s) ls = Covers ls s × of_three (One (token.Word word.Select)) (TestStands c) (Part (Stands a)) (Part (Stands b)) ls

  -- the same of indices, each with the sign behind it
  pub RowStands : {n : _} → Row_of-Expr n → List Lexeme → Type 0
  RowStands end_of-Expr ls = ls ≡ []
  RowStands (more_of-Expr a rest) ls = (Part (Stands a) ⨾ Separates ⨾ RowStands rest) ls

  pub TestStands : Cond → List Lexeme → Type 0
  TestStands (Compare by a b s) ls = Covers ls s × compared by (Stands a) (Stands b) ls
  TestStands (Not' p c s) ls = Covers ls s × of_one (One (token.Word word.Not)) (TestStands c) ls
  TestStands (All' p c q d s) ls = Covers ls s × of_two (One (token.Word word.All)) (TestStands c) (TestStands d) ls
  TestStands (Any' p c q d s) ls = Covers ls s × of_two (One (token.Word word.Any)) (TestStands c) (TestStands d) ls

-- the indices as a list
abbrev pub AllStand : List Expr → Form
AllStand [] ls = ls ≡ []
AllStand (a ∷ rest) ls = (Part (Stands a) ⨾ Separates ⨾ AllStand rest) ls

-- ---- tokens in front of others

-- the tokens before the rest have the form
pub record Front (P : Form) (ls rest : List Lexeme) : Type 0 where
  pub taken : List Lexeme
  pub front : ls ≡ taken ++ rest
  pub form : P taken

-- and begin and end where the place does
pub record FrontAt (P : Form) (s : Span) (ls rest : List Lexeme) : Type 0 where
  pub taken : List Lexeme
  pub front : ls ≡ taken ++ rest
  pub form : P taken
  pub covers : Covers taken s

-- the expression, with the brackets round it, is the whole text
pub record StandsIn (text : List ℕ) (e : Expr) : Type 0 where
  pub lexemes : List Lexeme
  pub tokens : AreLexemes text lexemes
  pub stands : Part (Stands e) lexemes
