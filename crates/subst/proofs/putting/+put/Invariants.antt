use Rattle.std.proofs.Common.{◌≡◌, take}
use Rattle.tree.specs.Term.{indices, list_terms}
use Rattle.tree.specs.Substitution.{all_with_calls}
use Rattle.subst.specs.Filled.{AreHeld}
use Rattle.subst.specs.Table.{stands}
use Rattle.subst.proofs.putting.+put.Given as goal

abbrev pub invariant-put_row-loop-index : goal.invariant-put_row-loop-index
invariant-put_row-loop-index l = indices (list_terms l.row.at.items) ≡ all_with_calls (stands l.bodies) (indices (list_terms (take l.index-index l.at)))

abbrev pub invariant-put_each-loop-index : goal.invariant-put_each-loop-index
invariant-put_each-loop-index l = AreHeld (all_with_calls (stands l.bodies) (indices (list_terms (take l.index-index l.at)))) l.held.items
