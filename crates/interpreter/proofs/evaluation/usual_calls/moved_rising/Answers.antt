use Rattle.std.proofs.Common.{◌≡◌, Some, pos, sym, ap, ◌∙◌, arith, rules, w64, SFits, ℤ}
use Rattle.std.proofs.lemmas.Int.{to_z-of_z}
use Rattle.std.specs.Prelude.{◌+ℤ◌}
use Rattle.numeric.specs.declared.ty.Ty.TheVariants.{I32}
use Rattle.plan.specs.Semantics.Found.{found}
use Rattle.tree.specs.declared.expr.Expr.{Expr}
use Rattle.tree.specs.declared.value.Value.{Value}
use Rattle.tree.specs.Meaning.{typed, applied}
use Rattle.tree.specs.Term.{term_of, Binary}
use Rattle.interpreter.proofs.FoundRuns.{found_binary}
use Rattle.interpreter.proofs.evaluation.usual_calls.moved_rising.Goals as goal

pub returns : goal.returns
returns g c = λ m ok k lt.
    let vs = g.R.RunReader.variables c.args.reader.now k in
    let look = g.R.RunReader.look c.args.reader.now m in
    let op = c.in-Binary.op in
    let x : ℤ = c.in_ok-first.first in
    let x_fits : SFits w64 x = search rules in
    let n : ℤ = c.in_ok-number.number in
    let n_fits : SFits w64 n = search rules in
    let left : c.deref.result.now ≡ c.in-Binary.left.value = search rules in
    let right : c.deref-2.result.now ≡ c.in-Binary.right.value = search rules in
    ap (λ (e : Expr). found vs look (term_of e)) c.in-Binary.is
    ∙ (λ i. found vs look (Binary op (term_of (sym left i)) (term_of (sym right i))))
    ∙ found_binary vs look op (term_of c.deref.result.now) (term_of c.deref-2.result.now) (typed I32 (x +ℤ pos k)) c.in_ok-second.second
    (c.in_ok-first.ensures m ok k lt) (c.in_ok-second.ensures vs look)
    ∙ ap (λ (v : Value). Some v) (ap (λ (z : ℤ). applied op (typed I32 (z +ℤ pos k)) c.in_ok-second.second) (sym (to_z-of_z w64 x x_fits))
    ∙ ap (λ (v : Value). applied op (typed v.ty (v.number +ℤ pos k)) c.in_ok-second.second) (sym c.value_of_index.ensures)
    ∙ sym (c.in_ok-moved.ensures.lanes k (omega arith)) ∙ ap (λ (v : Value). typed v.ty (v.number +ℤ pos k)) c.in_ok-number.ensures
    ∙ ap (λ (z : ℤ). typed I32 (z +ℤ pos k)) (sym (to_z-of_z w64 n n_fits)))
