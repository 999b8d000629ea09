use Rattle.std.proofs.Common.{◌≡◌, ℕ, List, map, sym, ap, ◌∙◌, subst}
use Rattle.std.specs.Bool.{OnTrue}
use Rattle.std.specs.Prelude.{string_bytes}
use Rattle.plan.specs.declared.stmt.Coordinate.{Coordinate}
use Rattle.plan.specs.declared.stmt.Stmt.{Stmt}
use Rattle.plan.specs.Plan.{Statement, Seq, block}
use Rattle.plan.specs.Lists.{list_statements}
use Rattle.plan.specs.View.{statement_of}
use Rattle.plan.proofs.Rows.{statement_of-seq}
use Rattle.tree.specs.Term.{term_of}
use Rattle.interpreter.specs.LineCodes.{IsCoded, StatementIsCoded}
use Rattle.interpreter.proofs.Storing.{names_is}
use Rattle.interpreter.proofs.line_codes.+checking.Goals as goal

pub are_coded-returns-in-Seq : goal.are_coded-returns-in-Seq
are_coded-returns-in-Seq t c =
    let e : Seq (block (list_statements c.deref.result.now)) ≡ statement_of c.args.stmt.now =
    ap (λ (l : List Stmt). Seq (block (list_statements l))) c.deref.ensures.value ∙ sym (statement_of-seq c.in-Seq.all) ∙ ap statement_of (sym c.in-Seq.is) in
    subst (λ (a : Statement). OnTrue c.are_all_coded.result (StatementIsCoded c.args.codes.now a)) e c.are_all_coded.ensures

pub are_coded-returns-in-Store : goal.are_coded-returns-in-Store
are_coded-returns-in-Store t c =
    let codes = c.args.codes.now in
    let b = c.in-Store.buffer in
    let k = c.in-Store.definition in
    let cs = c.in-Store.coordinates.items in
    let e = term_of c.in-Store.value in
    let names = ap (map (λ (x : Coordinate). string_bytes x.variable)) c.deref-in-Store.ensures.value ∙ sym (names_is cs) in
    subst (λ (a : Stmt). OnTrue c.is_coded.result (StatementIsCoded codes (statement_of a))) (sym c.in-Store.is)
    (subst (λ (xs : List (List ℕ)). OnTrue c.is_coded.result (IsCoded codes b k xs e)) names c.is_coded.ensures)
