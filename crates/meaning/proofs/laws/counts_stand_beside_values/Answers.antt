use Rattle.std.proofs.Common.{refl}
use Rattle.meaning.specs.Count.{pure_count}
use Rattle.meaning.specs.Value.{pure_value, input_calls}
use Rattle.meaning.proofs.Counts.{count_set, count_kept, updated_values, priced_calls}
use Rattle.meaning.proofs.laws.counts_stand_beside_values.Goals as goal

pub returns-clause-cases : goal.returns-clause-cases
returns-clause-cases c = record {
  first = λ calls costs f before u p. refl;
  set = λ calls costs f before u n p e. count_set calls costs f before u n p e;
  kept = λ calls costs f before u n p d. count_kept calls costs f before u n p d;
}

pub returns-clause-beside : goal.returns-clause-beside
returns-clause-beside c = record {
  values = λ calls costs f. updated_values calls costs f (record { values = pure_value calls f; counts = pure_count calls costs f }) f.changes;
  calls = λ a samples. priced_calls (record { calls = input_calls a samples; costs = λ called at. 0 }) a.functions;
}
