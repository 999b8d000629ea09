use Rattle.std.proofs.Common.{◌≡◌, Some, ap, ◌∙◌, subst}
use Rattle.std.specs.Prelude.{slice_get}
use Rattle.algo.proofs.Placed.{item_at}
use Rattle.crop.proofs.Large.{update_stands}
use Rattle.crop.proofs.scene_error.large_reduction.Goals as goal

pub returns-then-has_large_domain : goal.returns-then-has_large_domain
returns-then-has_large_domain c =
    let f = c.args.file.now in
    let i = c.loop-statement.statement-index in
    let s = c.statement-item.result in
    let ss = c.deref-statement-items.result.now in
    let at = item_at ss i s c.statement-item.is c.loop-statement-test.true in
    let stands : slice_get f.statements.items i ≡ Some s = subst (λ l. slice_get l i ≡ Some s) c.deref-statement-items.ensures.value at in
    (update_stands f i c.in-Update.update (stands ∙ ap Some c.in-Update.is), c.has_large_domain.ensures c.if-has_large_domain.true)
