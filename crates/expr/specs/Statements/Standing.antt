-- Names stand in the text where their spans say.
use Rattle.std.specs.Prelude.{◌≡◌, ℕ, List, All}
use Rattle.tree.specs.declared.token.token.Lexeme.{Lexeme}
use Rattle.tree.specs.Token.Lexical.{slice, AreSlices}
use Rattle.expr.specs.declared.statements.statement.Named.{Named}
use Rattle.expr.specs.declared.statements.statement.Domain.{Domain}
use Rattle.expr.specs.declared.statements.statement.Statement.{Statement}
use Rattle.expr.specs.declared.statements.statement.Statement.TheVariants.{Function, Update}
use Rattle.expr.specs.declared.statements.statement.File.{File}
use Rattle.expr.specs.Statements.View.{named_text}

-- each token is what the text has at its place
pub record AreOf (text : List ℕ) (lexemes : List Lexeme) : Type 0 where
  pub slices : AreSlices text lexemes

-- the bytes of the text in the name's span are the name
abbrev pub StandsAt : List ℕ → Named → Type 0
StandsAt text n = slice text n.span ≡ named_text n

-- the same of the variable of a range
abbrev pub DomainStands : List ℕ → Domain → Type 0
DomainStands text d = StandsAt text d.variable

-- the same of each name of a statement outside of its expressions
abbrev pub StatementStands : List ℕ → Statement → Type 0
StatementStands text (Function s) = StandsAt text s.name × All (StandsAt text) s.variables.items
StatementStands text (Update s) = StandsAt text s.name × All (DomainStands text) s.domains.items

-- the same of each name of a file outside of its expressions
pub record NamesStand (text : List ℕ) (f : File) : Type 0 where
  pub name : StandsAt text f.name
  pub input : StandsAt text f.input.name
  pub statements : All (StatementStands text) f.statements.items
  pub output : StandsAt text f.output.name
