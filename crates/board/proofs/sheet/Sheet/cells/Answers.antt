use Rattle.std.proofs.Common.{◌≡◌, ◌+◌, ◌∙◌, ℕ, ℤ, List, length, ap, subst, sym}
use Rattle.board.specs.Kept.{in_planes, planes_of, AreSamples}
use Rattle.board.specs.Layout.{Layout}
use Rattle.board.specs.declared.source.Planes.{Planes}
use Rattle.board.proofs.ByCell.{all_kept, all_small}
use Rattle.board.proofs.sheet.Sheet.cells.Goals as goal

pub invariant_of-result : goal.invariant_of-result
invariant_of-result g c =
    let plan : Layout = g.J.Run.layout in
    let V : List ℤ = g.J.Run.values in
    let kept = c.self.inside.kept in
    let n : ℕ = length c.self.inside.bits.items in
    let long : length c.as_slice.result.now ≡ n = ap length c.as_slice.ensures.value in
    let count = all_kept plan kept n c.self.invariant.2 in
    let small = all_small plan V kept n c.self.invariant.2 c.self.invariant.5 in (
      c.self.invariant.0,
      c.self.invariant.1,
      (λ i. long i + in_planes (c.planes.ensures i)) ∙ count,
      subst (λ (x : Planes). AreSamples V (length c.as_slice.result.now) (length c.as_slice.result.now + in_planes x)) (sym c.planes.ensures)
          (subst (λ (m : ℕ). AreSamples V m (m + in_planes (planes_of kept))) (sym long) small),
    )
