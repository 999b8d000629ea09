use Rattle.std.proofs.Common.{◌≡◌, take}
use Rattle.tree.specs.Term.{list_terms}
use Rattle.tree.specs.Place.{list_spans}
use Rattle.tree.proofs.copying.+copy.Given as goal

abbrev pub invariant-copy_all-loop-expr : goal.invariant-copy_all-loop-expr
invariant-copy_all-loop-expr l = record {
  terms : list_terms l.copied.items ≡ list_terms (take l.expr-index l.at);
  spans : list_spans l.copied.items ≡ list_spans (take l.expr-index l.at);
}
