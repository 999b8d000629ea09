use Rattle.std.proofs.Common.{ap, sym, ◌∙◌}
use Rattle.tree.specs.declared.value.Value.{Value}
use Rattle.meaning.specs.Value.{calls_of}
use Rattle.meaning.proofs.Back.{stands_alone, finished}
use Rattle.meaning.proofs.Calls.{called, called_before, input_called, input_called_before}
use Rattle.meaning.proofs.laws.values_stand_on_those_before.Goals as goal

pub returns : goal.returns
returns c = record {
  alone = λ a k f calls others w e h s p. stands_alone a k f w e calls others h s p;
  called = λ a samples k f p w e. called a w.names samples k f p e;
  called_before = λ a samples j k f p w e h. called_before a w.names samples j k f p e h;
  input = λ a samples p w. input_called a w.names samples p;
  input_before = λ a samples k p w. input_called_before a w.names samples k p;
  finished = λ a samples k f s p w e. finished a k f w e samples s p;
  output = λ a samples k f p w e h. ap (λ n. (calls_of a samples n p).number) (sym h) ∙ ap (λ (v : Value). v.number) (called a w.names samples k f p e);
}
