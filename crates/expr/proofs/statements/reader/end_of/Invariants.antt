use Rattle.std.proofs.Common.{◌≡◌, ◌≤◌, drop}
use Rattle.expr.specs.Statements.Places.{end_from}
use Rattle.expr.proofs.statements.reader.end_of.Given as goal

abbrev pub invariant-loop-lexeme : goal.invariant-loop-lexeme
invariant-loop-lexeme l = record {
  few : l.depth ≤ l.lexeme-index;
  read : end_from 0 l.tokens l.end ≡ end_from l.depth (drop l.lexeme-index l.tokens) l.last;
}
