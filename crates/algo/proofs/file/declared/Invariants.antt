use Rattle.std.proofs.Common.{◌≡◌, ◌∷◌, map, take, string_bytes}
use Rattle.std.specs.List.{flat_map}
use Rattle.expr.specs.Statements.View.{statement_text}
use Rattle.algo.specs.Parts.{names_of}
use Rattle.algo.specs.Saying.{name_declared}
use Rattle.algo.proofs.file.declared.Given as goal

abbrev pub invariant-loop-statement : goal.invariant-loop-statement
invariant-loop-statement l = names_of l.names.items ≡ string_bytes l.file.input.name.name ∷ flat_map name_declared (map statement_text (take l.statement-index l.file.statements.items))
