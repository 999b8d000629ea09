use Rattle.std.proofs.Common.{◌≡◌, ℕ, List, All, ◌-◌, length, map}
use Rattle.std.specs.List.{flat_map}
use Rattle.tree.specs.declared.token.token.Lexeme.{Lexeme}
use Rattle.tree.specs.Token.Cursor.{kinds}
use Rattle.expr.specs.Statements.View.{named_text}
use Rattle.expr.specs.Statements.Standing.{AreOf, StandsAt}
use Rattle.expr.specs.Statements.Marks.{StandIn, named_marks}
use Rattle.expr.specs.Statements.Reading.{more_of, name}
use Rattle.expr.proofs.statements.parser.more_names.Given as goal

abbrev pub invariant-loop : goal.invariant-loop
invariant-loop l = record {
  read : more_of name (length l.tokens - l.counter) (map named_text l.found.items) (kinds l.rest) ≡ more_of name (length l.tokens) (map named_text l.initial.found.items) (kinds l.tokens);
  stands : (text : List ℕ) → AreOf text l.tokens → All (StandsAt text) l.initial.found.items → AreOf text l.rest × All (StandsAt text) l.found.items;
  placed : (before : List Lexeme) → StandIn (flat_map named_marks l.initial.found.items) before l.tokens → StandIn (flat_map named_marks l.found.items) before l.rest;
}
