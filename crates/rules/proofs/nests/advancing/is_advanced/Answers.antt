use Rattle.std.proofs.Common.{◌≡◌, Bool, ap, sym, subst, ◌∙◌}
use Rattle.std.specs.Prelude.{IfOk, take, drop}
use Rattle.tree.specs.Term.{term_of}
use Rattle.algo.specs.View.{algorithm_of}
use Rattle.plan.specs.View.{statement_of}
use Rattle.plan.specs.declared.stmt.Stmt.{Stmt}
use Rattle.plan.specs.Certificate.Certificate.{claim_of}
use Rattle.soundness.specs.Binders.View.{binders_of}
use Rattle.soundness.specs.Outline.View.{outline_in}
use Rattle.soundness.specs.Nests.Laws.{domains_of}
use Rattle.soundness.specs.Nests.Tests.{is_advanced, is_ordered}
use Rattle.rules.specs.Nests.View.{coordinates_of, loops_of}
use Rattle.rules.proofs.Stores.{advanced_by}
use Rattle.rules.proofs.nests.advancing.is_advanced.Goals as goal

pub returns-then-ordered : goal.returns-then-ordered
returns-then-ordered g c =
    let setting = (outline_in c.args.outlined.now).setting in
    let rules = g.B.Bounds.rules c.args.at.now.bounds.now in
    let bs = binders_of c.args.at.now.binders.now in
    let claim = claim_of c.args.claim.now in
    let ls = loops_of c.args.nested.now.loops.items in
    let domain = domains_of (algorithm_of c.args.algo.now) in
    let at = coordinates_of c.in-Store.coordinates.items in
    let b = c.in-Store.buffer in
    let k = c.in-Store.definition in
    let e = term_of c.in-Store.value in
    subst (λ (x : Bool). IfOk c.others_cover.result (λ yes. yes ≡ x))
    (advanced_by setting rules bs claim ls domain b k at e (coordinates_of c.left_of-left.result.now) (coordinates_of c.over_of-over.result.now)
    c.as_slice.result.now (loops_of c.deref-then-ordered-2.result.now)
    (c.left_of-left.ensures ∙ (λ i. take (c.dimensions-count.ensures i) (coordinates_of (c.deref.ensures.value i))))
    (c.over_of-over.ensures ∙ (λ i. drop (c.dimensions-count.ensures i) (coordinates_of (c.deref-then-ordered.ensures.value i))))
    c.as_slice.ensures (ap loops_of c.deref-then-ordered-2.ensures.value)
    (ap (λ (s : Stmt). is_ordered setting rules domain bs claim ls (statement_of s)) (sym c.in-Store.is) ∙ sym c.in_ok-ordered.ensures ∙ c.if-ordered.true)
    ∙ ap (λ (s : Stmt). is_advanced setting rules domain bs claim ls (statement_of s)) (sym c.in-Store.is))
    c.others_cover.ensures
