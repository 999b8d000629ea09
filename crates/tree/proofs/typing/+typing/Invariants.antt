use Rattle.std.proofs.Common.{◌≡◌, drop, ◌&&◌}
use Rattle.std.specs.Prelude.{is_some}
use Rattle.std.specs.List.{list_all}
use Rattle.tree.specs.Term.{term_of}
use Rattle.tree.specs.Typing.{type_of, is_index}
use Rattle.tree.specs.Place.{list_misfits}
use Rattle.tree.proofs.typing.+typing.Given as goal

abbrev pub invariant-are_indices-loop-index : goal.invariant-are_indices-loop-index
invariant-are_indices-loop-index g l = record {
  typed : list_all (λ a. is_some (type_of (g.N.Names.variables l.names) (g.N.Names.functions l.names) (term_of a))) (drop l.index-index l.at) ≡ list_all (λ a. is_some (type_of (g.N.Names.variables l.names) (g.N.Names.functions l.names) (term_of a))) l.at;
  indices : (l.fit && list_all (λ a. is_index (type_of (g.N.Names.variables l.names) (g.N.Names.functions l.names) (term_of a))) (drop l.index-index l.at)) ≡ list_all (λ a. is_index (type_of (g.N.Names.variables l.names) (g.N.Names.functions l.names) (term_of a))) l.at;
  places : list_misfits (g.N.Names.variables l.names) (g.N.Names.functions l.names) (drop l.index-index l.at) ≡ list_misfits (g.N.Names.variables l.names) (g.N.Names.functions l.names) l.at;
}
