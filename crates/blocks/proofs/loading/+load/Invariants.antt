use Rattle.std.proofs.Common.{◌≡◌, map, take}
use Rattle.tree.specs.Term.{list_terms, indices}
use Rattle.tree.specs.Substitution.{all_with_calls}
use Rattle.blocks.specs.Loading.{load_of}
use Rattle.sched.specs.Loading.{as_load}
use Rattle.blocks.proofs.loading.+load.Given as goal

abbrev pub invariant-loaded_all-loop-index : goal.invariant-loaded_all-loop-index
invariant-loaded_all-loop-index l = indices (list_terms l.made.items) ≡ all_with_calls (as_load (map load_of l.loads)) (indices (list_terms (take l.index-index l.at)))
