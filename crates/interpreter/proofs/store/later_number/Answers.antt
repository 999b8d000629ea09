use Rattle.std.proofs.Common.{◌≡◌, ap, subst, sym, ◌∙◌, ℤ, pos, ◌+ℤ◌, rules, w64, SFits}
use Rattle.lin.specs.Forms.{factor_of}
use Rattle.plan.specs.declared.stmt.Index.{Index}
use Rattle.plan.specs.Symbols.{Symbols, bind, form_value}
use Rattle.plan.specs.Semantics.Actions.{fixed, index_target}
use Rattle.plan.specs.View.{index_of}
use Rattle.interpreter.specs.Bindings.{symbols_of}
use Rattle.interpreter.specs.Narrow.{FormIsNarrow, IndexIsNarrow}
use Rattle.interpreter.proofs.Moving.{later_value}
use Rattle.interpreter.proofs.store.later_number.Goals as goal

pub returns-in-Form : goal.returns-in-Form
returns-in-Form c =
    let s = symbols_of c.args.symbols.now in
    let a = c.args.first in
    let b = c.args.second in
    let l = c.in-Form.form in
    let x = c.in-Form.is in
    let number : ℤ = c.args.number in
    let step : ℤ = c.factor.result in
    let number_fits : SFits w64 number = search rules in
    let step_fits : SFits w64 step = search rules in
    let then : Symbols = bind s a.symbol (a.value +ℤ pos 1) b.first in
    let here : bind s b.symbol b.value b.first ≡ then = λ i. bind s (c.requires.same i) (c.requires.next i) b.first in
    let is : number ≡ form_value l (bind s a.symbol a.value a.first) = c.requires.number ∙ ap (λ (y : Index). fixed (index_target (bind s a.symbol a.value a.first) (index_of y))) x in
    let factor : step ≡ factor_of l.terms a.symbol = c.factor.ensures.value ∙ ap (factor_of l.terms) c.requires.same in
    let form : FormIsNarrow then l =
    subst (λ (t : Symbols). FormIsNarrow t l) here (subst (λ (y : Index). IndexIsNarrow (bind s b.symbol b.value b.first) (index_of y)) x c.requires.narrow) in
    later_value l s a.symbol a.value number step a.first b.first number_fits step_fits is factor form.value
    ∙ ap (form_value l) (sym here)
    ∙ ap (λ (y : Index). fixed (index_target (bind s b.symbol b.value b.first) (index_of y))) (sym x)
