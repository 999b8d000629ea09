use Rattle.algo.proofs.Placed.{item_at}
use Rattle.crop.proofs.Large.{large_stands}
use Rattle.crop.proofs.scene_error.has_large_range.Goals as goal

pub returns-then-is_large_range : goal.returns-then-is_large_range
returns-then-is_large_range c = λ t.
    let ds = c.args.domains.now in
    let i = c.loop-domain.domain-index in
    let d = c.domain-item.result in
    large_stands ds i d (item_at ds i d c.domain-item.is c.loop-domain-test.true) (c.is_large_range.ensures c.if-is_large_range.true)
