use Rattle.std.proofs.Common.{◌≡◌, take}
use Rattle.tree.specs.Term.{list_terms}
use Rattle.algo.proofs.update.copies.Given as goal

abbrev pub invariant-loop-index : goal.invariant-loop-index
invariant-loop-index l = list_terms l.copies.items ≡ list_terms (take l.index-index l.at)
