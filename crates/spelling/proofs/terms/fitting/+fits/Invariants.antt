use Rattle.std.proofs.Common.{◌≡◌, drop}
use Rattle.tree.specs.Term.{list_terms, indices}
use Rattle.spelling.specs.Terms.Fitting.{all_fit as all_fit'}
use Rattle.spelling.proofs.terms.fitting.+fits.Given as goal

abbrev pub invariant-all_fit-loop-index : goal.invariant-all_fit-loop-index
invariant-all_fit-loop-index l = all_fit' (indices (list_terms (drop l.index-index l.at))) l.brackets ≡ all_fit' (indices (list_terms l.at)) l.brackets
