use Rattle.std.proofs.Common.{◌≡◌, ap}
use Rattle.std.specs.Prelude.{ℤ, ◌+ℤ◌}
use Rattle.std.proofs.lemmas.List.Elements.{recursion_from_All}
use Rattle.lin.specs.declared.form.Multiple.{Multiple}
use Rattle.lin.proofs.TermLemmas.{sum_of-same}
use Rattle.lin.proofs.laws.value_is_of_terms.Goals as goal

pub returns : goal.returns
returns c = λ form v w h. ap (λ (z : ℤ). form.constant +ℤ z) (sum_of-same form.terms v w (recursion_from_All (λ (t : Multiple). v t.symbol ≡ w t.symbol) form.terms h))
