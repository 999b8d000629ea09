use Rattle.meaning.proofs.Typed.{step_is_typed, value_is_typed}
use Rattle.meaning.proofs.laws.values_are_of_their_types.Goals as goal

pub returns : goal.returns
returns c = record {
  at_step = λ a samples k f s p w t e hp. step_is_typed a samples w t k f e s p hp;
  whole = λ a samples k f p w t e hp. value_is_typed a samples w t k f e p hp;
}
