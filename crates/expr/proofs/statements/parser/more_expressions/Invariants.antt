use Rattle.std.proofs.Common.{◌≡◌, ℕ, List, ◌-◌, length, map}
use Rattle.std.specs.List.{flat_map}
use Rattle.tree.specs.declared.token.token.Lexeme.{Lexeme}
use Rattle.tree.specs.Token.Cursor.{kinds}
use Rattle.tree.specs.Term.{term_of}
use Rattle.expr.specs.Statements.Standing.{AreOf}
use Rattle.expr.specs.Statements.Marks.{StandIn, expression_marks}
use Rattle.expr.specs.Statements.Reading.{more_of, expression}
use Rattle.expr.proofs.statements.parser.more_expressions.Given as goal

abbrev pub invariant-loop : goal.invariant-loop
invariant-loop l = record {
  read : more_of expression (length l.tokens - l.counter) (map term_of l.found.items) (kinds l.rest) ≡ more_of expression (length l.tokens) (map term_of l.initial.found.items) (kinds l.tokens);
  kept : (text : List ℕ) → AreOf text l.tokens → AreOf text l.rest;
  placed : (before : List Lexeme) → StandIn (flat_map expression_marks l.initial.found.items) before l.tokens → StandIn (flat_map expression_marks l.found.items) before l.rest;
}
