use Rattle.std.proofs.Common.{◌≡◌, map, ap, subst, ◌∙◌, pos, IfOk}
use Rattle.tree.specs.Term.{term_of}
use Rattle.algo.specs.Parts.{names_of}
use Rattle.algo.specs.View.{algorithm_of}
use Rattle.crop.specs.Inference.Needed.{callable_before}
use Rattle.crop.specs.Moving.{Move, moved}
use Rattle.crop.specs.Cutting.{spans_of, move_over}
use Rattle.crop.specs.View.{cut_of}
use Rattle.crop.proofs.cutting.value_cut.Goals as goal

pub returns : goal.returns
returns c =
    let p = c.args.piece.now in
    let a = algorithm_of p.algo.now in
    let named = ap (map (λ x. x.now)) c.deref-3.ensures.value ∙ c.in_ok-names.ensures ∙ ap names_of c.deref.ensures.value in
    let spans = c.in_ok-region.ensures ∙ ap spans_of c.deref-2.ensures.value in
    subst (λ (m : Move). IfOk c.moved.result (λ e. term_of e ≡ moved m (pos 0) (term_of p.function.now.value)))
    (c.mover_of-mover.ensures ∙ (λ i. move_over a (cut_of p.cut.now) (callable_before a p.number) (names_of p.function.now.variables.items) p.kept.now.origin.items (named i) (spans i)))
    c.moved.ensures
