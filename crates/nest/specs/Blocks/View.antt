-- What a line in memory says.
use Rattle.std.specs.Prelude.{map, string_bytes}
use Rattle.tree.specs.Term.{term_of}
use Rattle.plan.specs.View.{coordinate_of, declaration_of}
use Rattle.nest.specs.declared.blocks.line.Line.{Line as CodeLine}
use Rattle.nest.specs.declared.blocks.line.Line.TheVariants as code
use Rattle.nest.specs.Blocks.Line.{Line, PlanLine, InputLine, OutputLine, GroupLine, ForLine, LetLine, FirstLine, ElseLine, GuardLine, EndLine, AllocLine, FetchLine, StoreLine, PublishLine}

abbrev pub line_of : CodeLine → Line
line_of (code.Plan name) = PlanLine (string_bytes name)
line_of (code.Input input) = InputLine (declaration_of input)
line_of (code.Output output) = OutputLine (declaration_of output)
line_of (code.Group number function region grid) = GroupLine number (string_bytes function) region grid.items
line_of (code.For symbol span kind) = ForLine symbol span kind
line_of (code.Let symbol pick forms) = LetLine symbol pick forms
line_of (code.First symbol) = FirstLine symbol
line_of code.Else = ElseLine
line_of (code.Guard low high) = GuardLine low high
line_of code.End = EndLine
line_of (code.Alloc buffer function places) = AllocLine buffer (string_bytes function) places.items
line_of (code.Fetch buffer group region) = FetchLine buffer group region
line_of (code.Store buffer definition coordinates value) = StoreLine buffer definition (map coordinate_of coordinates.items) (term_of value)
line_of (code.Publish claim) = PublishLine claim
