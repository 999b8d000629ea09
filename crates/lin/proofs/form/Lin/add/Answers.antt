use Rattle.std.proofs.Common.{◌≡◌, ℕ, arith, ap, ◌∙◌}
use Rattle.std.specs.Prelude.{ℤ, pos, ◌+ℤ◌, Some}
use Rattle.std.proofs.lemmas.Int.{ints}
use Rattle.lin.specs.Forms.{Form, value_of, combined}
use Rattle.lin.proofs.TermLemmas.{value_of-plus_multiple}
use Rattle.lin.proofs.Limits.{if_ok, combined-means}
use Rattle.lin.proofs.form.Lin.add.Goals as goal

sum_value : (a b r : Form) → combined a (pos 1) b ≡ Some r → (v : ℕ → ℤ) → value_of r v ≡ value_of a v +ℤ value_of b v
sum_value a b r e v = ap (λ (f : Form). value_of f v) (combined-means a (pos 1) b r e).is ∙ omega (arith, ints, value_of-plus_multiple a (pos 1) b v)

pub returns-clause-value : goal.returns-clause-value
returns-clause-value c = if_ok c.plus_multiple.result _ _ (λ r e. sum_value c.args.self.now c.args.other.now r e) c.plus_multiple.ensures.ok
