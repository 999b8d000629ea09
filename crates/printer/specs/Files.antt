-- The statements that an algorithm's text has.
use Rattle.std.specs.Prelude.{ℕ, suc, true, false, ℤ, pos, negsuc, List, ◌∷◌, map}
use Rattle.std.specs.List.{flat_map}
use Rattle.tree.specs.Term.{Term}
use Rattle.meaning.specs.Algorithm.{Range, Change, Function, Algorithm}
use Rattle.expr.specs.Statements.Text.{BoundText, DomainText, UpdateText, StatementText, function, update, FileText}

abbrev pub bound_of : ℤ → BoundText
bound_of (pos n) = record { negative = false; number = n }
bound_of (negsuc n) = record { negative = true; number = suc n }

abbrev pub domain_of : Range → DomainText
domain_of d = record { variable = d.variable; low = bound_of d.low; high = bound_of d.high }

abbrev pub update_of : List ℕ → Change → UpdateText Term
update_of x u = record { name = x; domains = map domain_of u.ranges; at = u.at; value = u.value }

abbrev pub updates_of : List ℕ → List Change → List (StatementText Term)
updates_of x us = map (λ u. update (update_of x u)) us

abbrev pub statements_of : Function → List (StatementText Term)
statements_of f = function (record { name = f.name; ty = f.ty; variables = f.variables; value = f.value }) ∷ updates_of f.name f.changes

abbrev pub file_of : Algorithm → FileText Term
file_of a = record {
  name = a.name;
  input = record { name = a.input; ty = a.input_ty; extents = a.input_extents };
  statements = flat_map statements_of a.functions;
  output = record { name = a.output; extents = a.output_extents };
}
