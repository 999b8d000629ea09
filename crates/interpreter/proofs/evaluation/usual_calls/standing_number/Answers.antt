use Rattle.std.proofs.Common.{◌≡◌, Some, sym, ap, ◌∙◌, rules, w64, SFits, ℤ}
use Rattle.std.proofs.lemmas.Int.{to_z-of_z}
use Rattle.numeric.specs.declared.ty.Ty.TheVariants.{I32}
use Rattle.plan.specs.Semantics.Found.{found}
use Rattle.tree.specs.declared.expr.Expr.{Expr}
use Rattle.tree.specs.declared.value.Value.{Value}
use Rattle.tree.specs.Meaning.{typed, clamped}
use Rattle.tree.specs.Term.{term_of, Clamp}
use Rattle.interpreter.proofs.FoundRuns.{found_clamp}
use Rattle.interpreter.proofs.evaluation.usual_calls.standing_number.Goals as goal

pub returns : goal.returns
returns g c = λ m ok k lt.
    let vs = g.R.RunReader.variables c.args.reader.now k in
    let look = g.R.RunReader.look c.args.reader.now m in
    let x : ℤ = c.in_ok-value.value in
    let x_fits : SFits w64 x = search rules in
    let n : ℤ = c.clamped.result.number in
    let n_fits : SFits w64 n = search rules in
    let value : c.deref.result.now ≡ c.in-Clamp.value.value = search rules in
    let low : c.deref-2.result.now ≡ c.in-Clamp.low.value = search rules in
    let high : c.deref-3.result.now ≡ c.in-Clamp.high.value = search rules in
    ap (λ (e : Expr). found vs look (term_of e)) c.in-Clamp.is
    ∙ (λ i. found vs look (Clamp (term_of (sym value i)) (term_of (sym low i)) (term_of (sym high i))))
    ∙ found_clamp vs look (term_of c.deref.result.now) (term_of c.deref-2.result.now) (term_of c.deref-3.result.now) (typed I32 c.in_ok-value.value) c.in_ok-low.low c.in_ok-high.high
    (c.in_ok-value.ensures m ok k lt) (c.in_ok-low.ensures vs look) (c.in_ok-high.ensures vs look)
    ∙ ap (λ (v : Value). Some (typed I32 v.number)) (ap (λ (z : ℤ). clamped (typed I32 z) c.in_ok-low.low c.in_ok-high.high) (sym (to_z-of_z w64 x x_fits))
    ∙ ap (λ (v : Value). clamped v c.in_ok-low.low c.in_ok-high.high) (sym c.value_of_index.ensures) ∙ sym c.clamped.ensures)
    ∙ ap (λ (z : ℤ). Some (typed I32 z)) (sym (to_z-of_z w64 n n_fits))
