use Rattle.meaning.proofs.Own.{input_stays, stored_stays, others_are_left, stored_calls_stay}
use Rattle.meaning.proofs.inlining.laws.put_in_leaves_stored_calls.Goals as goal

pub returns : goal.returns
returns c = record {
  whole = stored_calls_stay;
  input = λ a stored w. input_stays a w stored;
  stored = λ a stored k f w at marked. stored_stays a w stored k f at marked;
  left = λ a stored e w. others_are_left a w stored e;
}
