use Rattle.std.proofs.Common.{◌≡◌, ℕ, arith, ap, ◌∙◌}
use Rattle.std.specs.Prelude.{ℤ, pos, ◌*ℤ◌, Some}
use Rattle.std.proofs.lemmas.Int.{ints, to_z-of_z}
use Rattle.lin.specs.Forms.{Form, number, value_of, combined}
use Rattle.lin.proofs.TermLemmas.{value_of-plus_multiple}
use Rattle.lin.proofs.Limits.{if_ok, combined-means}
use Rattle.lin.proofs.form.Lin.scale.Goals as goal
use mir.Val.{to_z, of_z, SFits}
use mir.Syntax.{w64}

multiple_value : (a r : Form) (k k' : ℤ) (zero_form : Form) → zero_form ≡ number (pos 0) → k' ≡ k → combined zero_form k' a ≡ Some r → (v : ℕ → ℤ) → value_of r v ≡ k *ℤ value_of a v
multiple_value a r k k' zero_form ez ek e v =
    let made = rw (ez, ek) at e in
    ap (λ (f : Form). value_of f v) (combined-means (number (pos 0)) k a r made).is ∙ omega (arith, ints, value_of-plus_multiple (number (pos 0)) k a v)

pub returns-clause-value : goal.returns-clause-value
returns-clause-value c =
    let fits : SFits w64 c.args.factor = c.ranges.factor in
    if_ok c.plus_multiple-2.result _ _ (λ r e. multiple_value c.args.self.now r c.args.factor (to_z w64 (of_z w64 c.args.factor)) c.number.result c.number.ensures (to_z-of_z w64 c.args.factor fits) e) c.plus_multiple-2.ensures.ok
