use Rattle.std.proofs.Common.{◌≡◌, ℕ, List, Option, sym, ap, ◌∙◌}
use Rattle.tree.specs.declared.expr.Expr.{Expr}
use Rattle.tree.specs.declared.value.Value.{Value}
use Rattle.tree.specs.Term.{term_of, list_terms, indices}
use Rattle.plan.specs.Semantics.Found.{found, with, all_found}
use Rattle.plan.specs.Semantics.Memory.{read}
use Rattle.plan.specs.Semantics.Run.{look}
use Rattle.interpreter.specs.Pieces.{around, no_cells}
use Rattle.interpreter.proofs.FoundRuns.{found_call}
use Rattle.interpreter.proofs.updates.own_call.Goals as goal

pub returns-then-branch-buffer : goal.returns-then-branch-buffer
returns-then-branch-buffer c = λ vs m.
    let L = look (around c.args.piece.now no_cells) m in
    let called : (n : List ℕ) (l : List Expr) → Option Value = λ n l. with (all_found vs L (indices (list_terms l))) (λ zs. L n zs) in
    let own : c.in_ok-claimed_buffer.field-0 ≡ c.args.buffer = c.if-branch-buffer.true in
    ap (λ (e : Expr). found vs L (term_of e)) c.in-Call.is
    ∙ found_call vs L c.in-Call.name c.in-Call.at c.in-Call.span
    ∙ (λ i. called (sym c.as_str.ensures.value i) (sym c.deref.ensures.value i))
    ∙ (λ i. with (all_found vs L (indices (list_terms c.deref.result.now))) (λ zs. c.in_ok-claimed_buffer.ensures m zs i))
    ∙ ap (λ (b : ℕ). with (all_found vs L (indices (list_terms c.deref.result.now))) (λ zs. read m b zs)) own
