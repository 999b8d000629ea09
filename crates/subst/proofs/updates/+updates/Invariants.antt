use Rattle.std.proofs.Common.{◌≡◌, drop}
use Rattle.tree.specs.Term.{indices, list_terms}
use Rattle.meaning.specs.Inlining.PutIn.{all_call_some}
use Rattle.subst.specs.Table.{marked}
use Rattle.subst.proofs.updates.+updates.Given as goal

abbrev pub invariant-any_calls_updates-loop-index : goal.invariant-any_calls_updates-loop-index
invariant-any_calls_updates-loop-index l =
    all_call_some (marked l.bodies) (indices (list_terms (drop l.index-index l.at))) ≡ all_call_some (marked l.bodies) (indices (list_terms l.at))
