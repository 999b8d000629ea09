use Rattle.std.proofs.Common.{◌++◌, ◌∷◌, [], sym, ap, ◌∙◌}
use Rattle.tree.specs.Term.{term_of}
use Rattle.soundness.specs.Outline.View.{outline_in}
use Rattle.soundness.specs.Binders.View.{binders_of}
use Rattle.obligations.specs.Loads.{known_in, names_in}
use Rattle.obligations.proofs.Loading.{intervals_more}
use Rattle.obligations.proofs.loads.intervals.Goals as goal

pub loop-index-preserved : goal.loop-index-preserved
loop-index-preserved g c =
    let O = outline_in c.args.judge.now.outlined.now in
    let R = g.B.Bounds.rules c.args.judge.now.bounds.now in
    let r = c.args.reads.now in
    let vars = c.args.vars.now in
    let at = c.args.at.now in
    let x = c.index-item.result in
    let is = c.in_ok-interval.ensures ∙ ap (λ bs. R.interval (binders_of bs) (names_in r) vars (term_of x)) c.deref.ensures.value in
    c.in_ok-push.ensures.ok ∙ (λ i. c.loop-index.invariant i ++ is i ∷ [])
    ∙ sym (intervals_more O R (known_in r).binders (names_in r) vars at c.loop-index.index-index x c.loop-index-test.true c.index-item.is)
