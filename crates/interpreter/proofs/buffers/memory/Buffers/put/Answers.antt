use Rattle.std.proofs.Common.{◌≡◌, ◌+◌, ◌<◌, ℕ, List, Some, sym, ap, subst, ◌∙◌, length, arith, rules}
use Rattle.std.proofs.lemmas.Grind.{common_steps}
use Rattle.std.proofs.lemmas.List.{length-set}
use Rattle.std.proofs.lemmas.Option.{get_or_from_slice_get}
use Rattle.plan.specs.Semantics.Memory.{write}
use Rattle.interpreter.specs.Buffers.Blocks.{Block, limits_of, memory_of}
use Rattle.interpreter.specs.Buffers.Raster.{LiesAt}
use Rattle.interpreter.specs.Buffers.Spots.{IsSpot, HasPlace}
use Rattle.interpreter.proofs.Blocks.{found_block, used_found, placed_at, same_limits, memory_written}
use Rattle.interpreter.proofs.Spots.{place_kept, spot_kept, there_less}
use Rattle.interpreter.proofs.buffers.memory.Buffers.put.Goals as goal

pub returns-clause-set : goal.returns-clause-set
returns-clause-set c = λ b p spot.
    let blocks : List Block = c.self.inside.buffers.items in
    let old : Block = c.index_mut.result.now in
    let new : Block = c.put.new.self in
    let i : ℕ = c.args.spot.buffer in
    let here : IsSpot blocks b p c.args.spot c.args.behind = subst (λ (bs : List Block). IsSpot bs b p c.args.spot c.args.behind) (sym c.self.view_is) spot in
    let is : old ≡ here.block = c.index_mut.ensures.value ∙ get_or_from_slice_get blocks i here.block old here.there in
    let lies : LiesAt old.rooms p (c.args.spot.place + c.args.behind) = subst (λ (x : Block). LiesAt x.rooms p (c.args.spot.place + c.args.behind)) (sym is) here.lies in
    let is_set = c.put.ensures.set p lies in
    let found = found_block blocks b i old here.first ∙ ap Some (sym c.index_mut.ensures.value) in
    let was = used_found blocks b i old here.first in
    let number = ap (λ block. Block.number block) c.index_mut.ensures.value ∙ was.1 in
    let used = ap (λ block. Block.used block) c.index_mut.ensures.value ∙ was.0 in
    ap (λ bs. write (memory_of bs) b p c.args.value) (sym c.self.view_is)
    ∙ memory_written blocks _ b old new p c.args.value is_set found (placed_at blocks b i old new here.first (is_set.used ∙ used) (is_set.number ∙ number))

pub returns-clause-limits : goal.returns-clause-limits
returns-clause-limits c =
    let blocks : List Block = c.self.inside.buffers.items in
    let old : Block = c.index_mut.result.now in
    let new : Block = c.put.new.self in
    let is = c.put.ensures.is in
    let value = c.index_mut.ensures.value in
    same_limits blocks c.args.spot.buffer old new (ap (λ block. Block.number block) is ∙ ap (λ block. Block.number block) value) (ap (λ block. Block.limit block) is ∙ ap
    (λ block. Block.limit block) value)
    ∙ ap limits_of c.self.view_is

pub returns-clause-places : goal.returns-clause-places
returns-clause-places c = λ j n h.
    let blocks : List Block = c.self.inside.buffers.items in
    let old : Block = c.index_mut.result.now in
    let new : Block = c.put.new.self in
    let is = c.put.ensures.is in
    let value = c.index_mut.ensures.value in
    let here : HasPlace blocks j n = subst (λ (bs : List Block). HasPlace bs j n) (sym c.self.view_is) h in
    let rooms = ap (λ block. Block.rooms block) is ∙ ap (λ block. Block.rooms block) value in
    let count = ap (λ block. length (Block.places block)) is ∙ length-set old.places (c.args.spot.place + c.args.behind) (Some c.args.value) ∙ ap (λ block. length (Block.places block)) value in
    place_kept blocks c.args.spot.buffer new old rooms count j n here

pub returns-clause-spots : goal.returns-clause-spots
returns-clause-spots c = λ b p s k h.
    let blocks : List Block = c.self.inside.buffers.items in
    let old : Block = c.index_mut.result.now in
    let new : Block = c.put.new.self in
    let is = c.put.ensures.is in
    let value = c.index_mut.ensures.value in
    let here : IsSpot blocks b p s k = subst (λ (bs : List Block). IsSpot bs b p s k) (sym c.self.view_is) h in
    let number = ap (λ block. Block.number block) is ∙ ap (λ block. Block.number block) value in
    let used = ap (λ block. Block.used block) is ∙ ap (λ block. Block.used block) value in
    let rooms = ap (λ block. Block.rooms block) is ∙ ap (λ block. Block.rooms block) value in
    let count = ap (λ block. length (Block.places block)) is ∙ length-set old.places (c.args.spot.place + c.args.behind) (Some c.args.value) ∙ ap (λ block. length (Block.places block)) value in
    spot_kept blocks c.args.spot.buffer new old number used rooms count b p s k here

pub index_mut-requires : goal.index_mut-requires
index_mut-requires c =
    let here : HasPlace c.self.inside.buffers.items c.args.spot.buffer (c.args.spot.place + c.args.behind) = subst (λ (bs : List Block). HasPlace bs c.args.spot.buffer
    (c.args.spot.place + c.args.behind)) (sym c.self.view_is) c.requires in
    let less = there_less c.self.inside.buffers.items c.args.spot.buffer here.block here.there in
    first_of (search rules, omega (arith, less), grind (arith, less, common_steps))

pub put-requires : goal.put-requires
put-requires c =
    let blocks : List Block = c.self.inside.buffers.items in
    let old : Block = c.index_mut.result.now in
    let here : HasPlace blocks c.args.spot.buffer (c.args.spot.place + c.args.behind) = subst (λ (bs : List Block). HasPlace bs c.args.spot.buffer (c.args.spot.place + c.args.behind))
    (sym c.self.view_is) c.requires in
    let is : old ≡ here.block = c.index_mut.ensures.value ∙ get_or_from_slice_get blocks c.args.spot.buffer here.block old here.there in
    subst (λ (x : Block). c.args.spot.place + c.args.behind < length x.places) (sym is) here.inside
