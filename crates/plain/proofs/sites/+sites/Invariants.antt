use Rattle.std.proofs.Common.{◌≡◌, ◌++◌, map, take}
use Rattle.tree.specs.Term.{indices, list_terms}
use Rattle.plain.specs.Sites.{site_of, sites_of_all}
use Rattle.plain.proofs.sites.+sites.Given as goal

abbrev pub invariant-add_all-loop-expr : goal.invariant-add_all-loop-expr
invariant-add_all-loop-expr l =
    map site_of l.found.items ≡ map site_of l.initial.found.items ++ sites_of_all l.input (indices (list_terms (take l.expr-index l.at)))
