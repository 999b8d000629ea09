-- What statements say: their texts, without places and pointers.
use Rattle.std.specs.Prelude.{ℕ, List, map, string_bytes}
use Rattle.tree.specs.Term.{Term, term_of}
use Rattle.expr.specs.declared.statements.statement.Named.{Named}
use Rattle.expr.specs.declared.statements.statement.Extent.{Extent}
use Rattle.expr.specs.declared.statements.statement.Bound.{Bound}
use Rattle.expr.specs.declared.statements.statement.Domain.{Domain}
use Rattle.expr.specs.declared.statements.statement.InputStatement.{InputStatement}
use Rattle.expr.specs.declared.statements.statement.FunctionStatement.{FunctionStatement}
use Rattle.expr.specs.declared.statements.statement.UpdateStatement.{UpdateStatement}
use Rattle.expr.specs.declared.statements.statement.Statement.{Statement}
use Rattle.expr.specs.declared.statements.statement.Statement.TheVariants.{Function, Update}
use Rattle.expr.specs.declared.statements.statement.OutputStatement.{OutputStatement}
use Rattle.expr.specs.declared.statements.statement.File.{File}
use Rattle.expr.specs.Statements.Text.{BoundText, DomainText, InputText, FunctionText, UpdateText, StatementText, function, update, OutputText, FileText}

abbrev pub named_text : Named → List ℕ
named_text n = string_bytes n.name

abbrev pub extent_text : Extent → ℕ
extent_text e = e.number

abbrev pub bound_text : Bound → BoundText
bound_text b = record { negative = b.negative; number = b.number }

abbrev pub domain_text : Domain → DomainText
domain_text d = record { variable = named_text d.variable; low = bound_text d.low; high = bound_text d.high }

abbrev pub input_text : InputStatement → InputText
input_text s = record { name = named_text s.name; ty = s.ty; extents = map extent_text s.extents.items }

abbrev pub function_text : FunctionStatement → FunctionText Term
function_text s = record { name = named_text s.name; ty = s.ty; variables = map named_text s.variables.items; value = term_of s.value }

abbrev pub update_text : UpdateStatement → UpdateText Term
update_text s = record { name = named_text s.name; domains = map domain_text s.domains.items; at = map term_of s.at.items; value = term_of s.value }

abbrev pub statement_text : Statement → StatementText Term
statement_text (Function s) = function (function_text s)
statement_text (Update s) = update (update_text s)

abbrev pub output_text : OutputStatement → OutputText
output_text s = record { name = named_text s.name; extents = map extent_text s.extents.items }

abbrev pub file_text : File → FileText Term
file_text f = record { name = named_text f.name; input = input_text f.input; statements = map statement_text f.statements.items; output = output_text f.output }
