use Rattle.std.proofs.Common.{refl}
use Rattle.meaning.proofs.Cases.{value_set, value_kept}
use Rattle.meaning.proofs.laws.value_follows_cases.Goals as goal

pub returns : goal.returns
returns c = record {
  first = λ calls f before u p. refl;
  set = value_set;
  kept = value_kept;
}
