use Rattle.std.proofs.Common.{◌≡◌, ◌+◌, ℕ, List, [], length, map, sym, ap, ◌∙◌, subst}
use Rattle.std.proofs.lemmas.List.{length-map}
use Rattle.std.specs.Prelude.{OnOk}
use Rattle.plan.specs.declared.stmt.Stmt.{Stmt}
use Rattle.plan.specs.Plan.{Statement, Seq, block}
use Rattle.plan.specs.Lists.{list_statements}
use Rattle.plan.specs.View.{coordinate_of, statement_of}
use Rattle.plan.proofs.Rows.{statement_of-seq}
use Rattle.tree.specs.Term.{term_of}
use Rattle.interpreter.specs.Evaluation.Indices.{indices_in}
use Rattle.interpreter.specs.Needs.{allotments, call_indices, coordinate_count, coordinate_indices, symbol_count, StatementIsShort}
use Rattle.interpreter.specs.Scratches.{IsNoted}
use Rattle.interpreter.specs.Targets.{indices_of_all}
use Rattle.interpreter.proofs.Fitting.{indices_mapped}
use Rattle.interpreter.proofs.needs.+needing.Goals as goal

pub note_needs-returns-in-Seq : goal.note_needs-returns-in-Seq
note_needs-returns-in-Seq t c =
    let e : Seq (block (list_statements c.deref.result.now)) ≡ statement_of c.args.stmt.now =
    ap (λ (l : List Stmt). Seq (block (list_statements l))) c.deref.ensures.value ∙ sym (statement_of-seq c.in-Seq.all) ∙ ap statement_of (sym c.in-Seq.is) in
    subst (λ (a : Statement). OnOk c.note_all_needs.result (IsNoted c.args.needs.now c.note_all_needs.new.needs (allotments a) (symbol_count a) (coordinate_count a) (call_indices a) (StatementIsShort a))) e c.note_all_needs.ensures

pub note_needs-returns-in-Store : goal.note_needs-returns-in-Store
note_needs-returns-in-Store t c =
    let old = c.args.needs.now in
    let new = c.store.new.self in
    let cs = c.in-Store.coordinates.items in
    let listed = c.deref-in-Store.ensures.value in
    let k = indices_in (term_of c.in-Store.value) in
    let count : length c.deref-in-Store.result.now ≡ length (map coordinate_of cs) = ap length listed ∙ sym (length-map cs coordinate_of) in
    let calls : indices_of_all c.deref-in-Store.result.now + k ≡ coordinate_indices (map coordinate_of cs) + k = ap (λ n. n + k) (ap indices_of_all listed ∙ indices_mapped cs) in
    subst (λ (a : Stmt). OnOk c.store.result (IsNoted old new (allotments (statement_of a)) (symbol_count (statement_of a)) (coordinate_count (statement_of a)) (call_indices (statement_of a)) (StatementIsShort (statement_of a)))) (sym c.in-Store.is)
    (subst (λ (n : ℕ). OnOk c.store.result (IsNoted old new [] 0 (length (map coordinate_of cs)) n (Unit {0}))) calls
    (subst (λ (n : ℕ). OnOk c.store.result (IsNoted old new [] 0 n (indices_of_all c.deref-in-Store.result.now + k) (Unit {0}))) count c.store.ensures))
