use Rattle.std.proofs.Common.{◌∙◌, rules, w64, SFits, ℤ, ap, map, take, drop, length, ◌-◌, fold, List}
use Rattle.std.specs.Int.{int_max}
use Rattle.std.proofs.lemmas.Int.{to_z-of_z}
use Rattle.lin.specs.Forms.{Form}
use Rattle.plan.specs.Symbols.{form_value, largest}
use Rattle.shares.specs.Lets.{symbols_at}
use Rattle.shares.proofs.Summing.{largest_first}
use Rattle.shares.proofs.forms.largest.Goals as goal

pub returns-in-len1-up-clause-value : goal.returns-in-len1-up-clause-value
returns-in-len1-up-clause-value c =
    let s = symbols_at c.args.at.now c.args.lets.now in
    let fs = c.as_slice.result.now in
    let r_fits : SFits w64 c.larger_of.result = search rules in
    let v_fits : SFits w64 c.value_of.result = search rules in
    let rest : List Form = take (length fs - 1) (drop 1 fs) in
    to_z-of_z w64 c.larger_of.result r_fits ∙ c.larger_of.ensures.value
    ∙ ap (λ (z : ℤ). fold int_max z (map (λ m. form_value m s) rest)) (to_z-of_z w64 c.value_of.result v_fits ∙ c.value_of.ensures.value ∙ ap (λ (f : Form). form_value f s) c.first-item.is)
    ∙ largest_first s fs c.first-item.result c.in-len1-up.len_at_least ∙ ap (largest s) c.as_slice.ensures
