use Rattle.std.proofs.Common.{◌≡◌, ℕ, List, All, ◌-◌, [], length, map}
use Rattle.std.specs.List.{flat_map}
use Rattle.tree.specs.Token.Cursor.{kinds}
use Rattle.expr.specs.Statements.View.{statement_text}
use Rattle.expr.specs.Statements.Standing.{AreOf, StatementStands}
use Rattle.expr.specs.Statements.Marks.{StandIn, statement_marks}
use Rattle.expr.specs.Statements.Reading.{statements}
use Rattle.expr.proofs.statements.parser.statements.Given as goal

abbrev pub invariant-loop : goal.invariant-loop
invariant-loop l = record {
  read : statements (length l.tokens - l.counter) (map statement_text l.found.items) (kinds l.rest) ≡ statements (length l.tokens) [] (kinds l.tokens);
  stands : (text : List ℕ) → AreOf text l.tokens → AreOf text l.rest × All (StatementStands text) l.found.items;
  placed : StandIn (flat_map statement_marks l.found.items) l.tokens l.rest;
}
