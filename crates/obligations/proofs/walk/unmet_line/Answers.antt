use Rattle.std.proofs.Common.{◌≡◌, List, [], ◌∷◌, map, sym, ap, ◌∙◌, subst}
use Rattle.std.specs.Prelude.{IfOk, not}
use Rattle.lin.specs.Forms.{Form}
use Rattle.plan.specs.declared.stmt.Stmt.{Stmt}
use Rattle.tree.specs.Term.{term_of}
use Rattle.plan.specs.declared.stmt.Coordinate.{Coordinate}
use Rattle.plan.specs.Plan.{Statement, Store}
use Rattle.plan.specs.View.{statement_of, coordinate_of}
use Rattle.soundness.specs.Obligations.{obligation, obligations, has_symbol, from_each, Undefined, Named}
use Rattle.soundness.specs.Outline.View.{outline_in}
use Rattle.obligations.specs.Context.Around.{known_of}
use Rattle.obligations.specs.Asked.{first_unmet}
use Rattle.obligations.proofs.walk.unmet_line.Goals as goal

pub returns-in-Store : goal.returns-in-Store
returns-in-Store g c =
    let O = outline_in c.args.judge.now.outlined.now in
    let R = g.B.Bounds.rules c.args.judge.now.bounds.now in
    let N = g.T.NestTests.nests c.args.judge.now.tests.now in
    let P = c.args.judge.now.part in
    let b = c.in-Store.buffer in
    let k = c.in-Store.definition in
    let value = term_of c.in-Store.value in
    let e : Store b k (map coordinate_of c.deref-in-Store.result.now) value ≡ statement_of c.args.stmt.now =
    ap (λ (l : List Coordinate). Store b k (map coordinate_of l) value) c.deref-in-Store.ensures.value ∙ ap statement_of (sym c.in-Store.is) in
    subst (λ (a : Statement). IfOk c.unmet_store.result (λ flaw. flaw ≡ first_unmet R N P (obligations O R a c.args.line (known_of c.args.known.now c.args.updating.now)))) e c.unmet_store.ensures

pub returns-in-Let : goal.returns-in-Let
returns-in-Let g c =
    let O = outline_in c.args.judge.now.outlined.now in
    let R = g.B.Bounds.rules c.args.judge.now.bounds.now in
    let N = g.T.NestTests.nests c.args.judge.now.tests.now in
    let P = c.args.judge.now.part in
    let K = known_of c.args.known.now c.args.updating.now in
    c.unmet_name.ensures
    ∙ ap (λ (fs : List Form). first_unmet R N P (obligation O R Undefined c.args.line K (Named (not (has_symbol O R c.in-Let.symbol (from_each fs) K))) ∷ [])) c.as_slice.ensures
    ∙ ap (λ (a : Stmt). first_unmet R N P (obligations O R (statement_of a) c.args.line K)) (sym c.in-Let.is)
