use Rattle.std.proofs.Common.{◌≡◌, ◌∷◌, Option, Some, pos, sym, ap, ◌∙◌, rules, arith, w64, SFits, ℤ}
use Rattle.std.proofs.lemmas.Int.{to_z-of_z}
use Rattle.std.specs.Prelude.{◌+ℤ◌}
use Rattle.numeric.specs.declared.ty.Ty.TheVariants.{I32}
use Rattle.plan.specs.Semantics.Found.{found, with}
use Rattle.tree.specs.declared.expr.Expr.{Expr}
use Rattle.tree.specs.declared.value.Value.{Value}
use Rattle.tree.specs.Meaning.{typed, clamped}
use Rattle.tree.specs.Term.{term_of, Clamp}
use Rattle.interpreter.specs.Evaluation.Lanes.{found_as}
use Rattle.interpreter.proofs.FoundRuns.{found_clamp}
use Rattle.interpreter.proofs.evaluation.lent_calls.lend_clamped.Goals as goal

pub returns-clause-value : goal.returns-clause-value
returns-clause-value g c = λ m ok k lt.
    let vs = g.R.RunReader.variables c.args.reader.now k in
    let look = g.R.RunReader.look c.args.reader.now m in
    let x : ℤ = c.in_ok-value.value in
    let fits : SFits w64 x = search rules in
    let value : c.deref.result.now ≡ c.in-Clamp.value.value = search rules in
    let low : c.deref-2.result.now ≡ c.in-Clamp.low.value = search rules in
    let high : c.deref-3.result.now ≡ c.in-Clamp.high.value = search rules in
    ap (λ (o : Option Value). found_as c.args.cast (with o (λ y. look c.args.name.now (y.number ∷ c.args.others.now))))
    (ap (λ (e : Expr). found vs look (term_of e)) c.in-Clamp.is
    ∙ (λ i. found vs look (Clamp (term_of (sym value i)) (term_of (sym low i)) (term_of (sym high i))))
    ∙ found_clamp vs look (term_of c.deref.result.now) (term_of c.deref-2.result.now) (term_of c.deref-3.result.now) (typed I32 (x +ℤ pos k)) c.in_ok-low.low c.in_ok-high.high
    (c.in_ok-value.ensures m ok k (omega arith)) (c.in_ok-low.ensures vs look) (c.in_ok-high.ensures vs look)
    ∙ ap (λ (v : Value). Some v) (ap (λ (z : ℤ). clamped (typed I32 (z +ℤ pos k)) c.in_ok-low.low c.in_ok-high.high) (sym (to_z-of_z w64 x fits)) ∙ sym (c.ramp_between-ramp.ensures k)))
    ∙ c.in_ok-operand.ensures.value m ok k lt
