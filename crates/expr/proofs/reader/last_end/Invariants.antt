use Rattle.std.proofs.Common.{◌≡◌, drop}
use Rattle.expr.specs.Text.{last_end}
use Rattle.expr.proofs.reader.last_end.Given as goal

abbrev pub invariant-loop-lexeme : goal.invariant-loop-lexeme
invariant-loop-lexeme l = last_end (drop l.lexeme-index l.lexemes) l.last ≡ last_end l.lexemes l.end
