use Rattle.std.proofs.Common.{sym, ◌∙◌}
use Rattle.crop.proofs.Large.{low_large, same_number}
use Rattle.crop.proofs.scene_error.is_large_range.Goals.{then-at-low, else-at-low}
use Rattle.crop.proofs.scene_error.is_large_range.Goals as goal

pub returns-then-low : goal.returns-then-low
returns-then-low c = λ t h.
    let u = c.if-low.true in
    elim c.if-at-low.branch [
      | then-at-low w ↦ let v = w.value-is in low_large c.args.domain.now (cc) t h
      | else-at-low w ↦ absurd (w.if-at-low.false (same_number c.args.at.start c.args.domain.now.low.span.start (sym w.value-is ∙ c.if-low.true)))
    ]
