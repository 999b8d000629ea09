use Rattle.std.proofs.Common.{◌≡◌, ◌*◌, ◌++◌, ℕ, List, drop, length, sym, ap, ◌∙◌, rules, arith}
use Rattle.std.proofs.Math.Seq.{drop-append_seam}
use Rattle.tree.specs.declared.expr.Expr.{Expr}
use Rattle.tree.specs.Term.{term_of, Binary}
use Rattle.plan.specs.Semantics.Found.{found}
use Rattle.plan.specs.Semantics.Run.{look}
use Rattle.interpreter.specs.Evaluation.Lanes.{number_at}
use Rattle.interpreter.specs.Pieces.{around, no_cells}
use Rattle.interpreter.specs.Updates.{operand_at, registers_of, variables_at}
use Rattle.interpreter.specs.declared.evaluation.lanes.Number.{Number}
use Rattle.interpreter.specs.declared.updates.Operation.{Operation}
use Rattle.interpreter.proofs.Updating.{front_same, operation_found}
use Rattle.interpreter.proofs.updates.operation_run.Goals as goal

pub returns-clause-finds : goal.returns-clause-finds
returns-clause-finds c = λ m but k lt.
    let r = c.args.reader.now in
    let b = r.reading.buffer in
    let V = variables_at r k in
    let L = look (around r.reading.piece.now no_cells) m in
    let n = c.args.count in
    let mid : List Number = c.operand_run.new.registers in
    let mine : List Number = c.split_at_mut-rest.result.0.now in
    let back : List Number = c.split_at_mut-rest.result.1.now in
    let rest : List Number = c.operand_run-2.new.registers in
    let o : Operation = record { op = c.in-Binary.op; left = c.in_ok-left.left; right = c.in_ok-right.right; width = c.in_ok-width.width } in
    let first : c.deref.result.now ≡ c.in-Binary.left.value = search rules in
    let second : c.deref-2.result.now ≡ c.in-Binary.right.value = search rules in
    let wide : length mine ≡ o.width = c.split_at_mut-rest.ensures.front_len in
    let width : o.width ≡ registers_of o.left * n = c.in_ok-width.ensures.1 ∙ ap (λ (w : ℕ). w * n) c.registers_of.ensures in
    let behind : rest ≡ drop o.width (mine ++ rest) = sym (drop-append_seam mine rest) ∙ ap (λ (w : ℕ). drop w (mine ++ rest)) wide in
    let whole : mid ≡ mine ++ back = c.split_at_mut-rest.ensures.value in
    ap (λ (e : Expr). found V L (term_of e)) c.in-Binary.is
    ∙ (λ i. found V L (Binary o.op (term_of (sym first i)) (term_of (sym second i))))
    ∙ operation_found V L n k (term_of c.deref.result.now) (term_of c.deref-2.result.now) o mid (mine ++ rest) m b (c.in_ok-left.ensures.finds m but k lt)
    (c.in_ok-right.ensures.finds m but k lt ∙ ap (λ (zs : List Number). operand_at n o.right zs m b k) behind) lt
    (λ j less. front_same mine rest back j (omega (arith, less, wide, width)) ∙ ap (λ (zs : List Number). number_at zs j) (sym whole))
