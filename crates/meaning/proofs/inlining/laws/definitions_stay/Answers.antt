use Rattle.meaning.specs.Names.{is_among}
use Rattle.meaning.proofs.Own.{put_in_keeps, put_in_keeps_type, definition_typed, all_kept, put_in_possible, named_definition}
use Rattle.meaning.proofs.inlining.laws.definitions_stay.Goals as goal

pub returns-clause-pure : goal.returns-clause-pure
returns-clause-pure c = record {
  value = λ a stored samples k f w at none. put_in_keeps a samples w stored (is_among f.variables) f.ty f.value (definition_typed a w k f at) none;
  type = λ a stored k f w at. put_in_keeps_type a w stored (is_among f.variables) f.ty f.value (definition_typed a w k f at);
}

pub returns-clause-where_possible : goal.returns-clause-where_possible
returns-clause-where_possible c = record {
  keeps = all_kept;
  possible = λ a stored known t e h none. put_in_possible a stored known t e h none;
  definition = named_definition;
}
