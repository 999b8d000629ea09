use Rattle.std.proofs.Common.{◌≡◌, ℕ, List, All, ◌-◌, length, map}
use Rattle.std.specs.List.{flat_map}
use Rattle.tree.specs.declared.token.token.Lexeme.{Lexeme}
use Rattle.tree.specs.Token.Cursor.{kinds}
use Rattle.expr.specs.Statements.View.{domain_text}
use Rattle.expr.specs.Statements.Standing.{AreOf, DomainStands}
use Rattle.expr.specs.Statements.Marks.{StandIn, domain_marks}
use Rattle.expr.specs.Statements.Reading.{more_of, domain}
use Rattle.expr.proofs.statements.parser.more_domains.Given as goal

abbrev pub invariant-loop : goal.invariant-loop
invariant-loop l = record {
  read : more_of domain (length l.tokens - l.counter) (map domain_text l.found.items) (kinds l.rest) ≡ more_of domain (length l.tokens) (map domain_text l.initial.found.items) (kinds l.tokens);
  stands : (text : List ℕ) → AreOf text l.tokens → All (DomainStands text) l.initial.found.items → AreOf text l.rest × All (DomainStands text) l.found.items;
  placed : (before : List Lexeme) → StandIn (flat_map domain_marks l.initial.found.items) before l.tokens → StandIn (flat_map domain_marks l.found.items) before l.rest;
}
