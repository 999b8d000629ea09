use Rattle.std.proofs.Common.{◌≡◌, ◌+◌, suc, map, ap, refl, ◌∙◌, pos, arith}
use Rattle.tree.specs.Term.{term_of, list_terms}
use Rattle.algo.specs.Parts.{names_of, range_of, change_of}
use Rattle.algo.specs.View.{algorithm_of}
use Rattle.crop.specs.Inference.Needed.{with_domain, names_beside}
use Rattle.crop.specs.Moving.{moved}
use Rattle.crop.specs.Cutting.{spans_of}
use Rattle.crop.specs.View.{cut_of, kept_of}
use Rattle.crop.specs.Plan.{each_moved}
use Rattle.crop.specs.Piece.{whole, move_in}
use Rattle.crop.proofs.Steps.{lefts_each}
use Rattle.crop.proofs.Cuts.{change_made}
use Rattle.crop.proofs.cutting.change_cut.Goals as goal

pub returns : goal.returns
returns c =
    let p = c.args.piece.now in
    let a = algorithm_of p.algo.now in
    let cut = cut_of p.cut.now in
    let u = c.args.update.now in
    let names = map (λ x. x.now) c.deref-5.result.now in
    let others = map (λ x. x.now) c.deref-6.result.now in
    let named = c.in_ok-names.ensures ∙ (λ i. names_beside (names_of (c.deref.ensures.value i)) (map range_of (c.deref-2.ensures.value i))) in
    let spans = c.in_ok-region.ensures ∙ (λ i. with_domain (spans_of (c.deref-3.ensures.value i)) (map range_of (c.deref-4.ensures.value i))) in
    let next : p.number + 1 ≡ suc p.number = omega arith in
    let origin = c.deref-8.result.now in
    let places = list_terms c.deref-9.result.now in
    let left = c.in_ok-at.ensures ∙ ap (λ m. each_moved m origin places) c.mover_of-left.ensures ∙ lefts_each (move_in p p.number names c.in_ok-region.region) a cut origin places in
    let right = c.in_ok-value.ensures ∙ ap (λ m. moved m (pos 0) (term_of u.value)) c.mover_of-right.ensures in
    change_made a cut p.number (whole p) (kept_of p.kept.now) (change_of u) (map range_of c.in_ok-ranges.ranges.items) (list_terms c.in_ok-at.at.items) (term_of c.in_ok-value.value)
    names others c.in_ok-region.region c.in_ok-region.region origin places (term_of u.value) (p.number + 1)
    (ap (map (λ x. x.now)) c.deref-5.ensures.value ∙ named) (ap (map (λ x. x.now)) c.deref-6.ensures.value ∙ named) spans spans
    c.deref-8.ensures.value (ap list_terms c.deref-9.ensures.value) refl next (c.in_ok-ranges.ensures ∙ ap (map range_of) c.deref-7.ensures.value) left right
