use Rattle.std.proofs.Common.{◌≡◌, ◌+◌, ◌<◌, ◌∙◌, ℕ, List, Some, subst, set, sym, ap, length, arith}
use Rattle.std.specs.Prelude.{slice_get}
use Rattle.std.proofs.lemmas.Option.{get_or_from_slice_get}
use Rattle.interpreter.specs.Buffers.Blocks.{Block, limits_of, memory_of}
use Rattle.interpreter.specs.Buffers.Spots.{set_all, HasPlace, IsSpot}
use Rattle.interpreter.specs.CellRows.{row_value}
use Rattle.interpreter.proofs.Blocks.{same_limits}
use Rattle.interpreter.proofs.RowsHeld.{row_set}
use Rattle.interpreter.proofs.buffers.memory.Buffers.put_cells.Goals as goal

pub returns-clause-set : goal.returns-clause-set
returns-clause-set c = λ b points h.
    let blocks : List Block = c.self.inside.buffers.items in
    let spot = c.args.spot in
    let row = c.args.row.now in
    let n = length row.numbers.now in
    let old : Block = c.index_mut.result.now in
    let some : 0 < n = omega arith in
    let inside : (k : ℕ) → k < n → HasPlace blocks spot.buffer (spot.place + k) =
    λ k lt. subst (λ (bs : List Block). HasPlace bs spot.buffer (spot.place + k)) (sym c.self.view_is) (c.requires k lt) in
    let spots : (k : ℕ) → k < n → IsSpot blocks b (points k) spot k = λ k lt. subst (λ (bs : List Block). IsSpot bs b (points k) spot k) (sym c.self.view_is) (h k lt) in
    let first : HasPlace blocks spot.buffer (spot.place + 0) = inside 0 some in
    let is : old ≡ first.block = c.index_mut.ensures.value ∙ get_or_from_slice_get blocks spot.buffer first.block old first.there in
    let there : slice_get blocks spot.buffer ≡ Some old = first.there ∙ ap (λ (x : Block). Some x) (sym is) in
    ap (λ (bs : List Block). set_all (memory_of bs) b points (row_value row) n) (sym c.self.view_is)
    ∙ row_set blocks b points spot old (row_value row) there c.put_cells.ensures.counted n spots inside n (omega arith)
    ∙ ap (λ (x : Block). Some (memory_of (set blocks spot.buffer x))) (sym c.put_cells.ensures.set)

pub returns-clause-limits : goal.returns-clause-limits
returns-clause-limits c =
    let blocks : List Block = c.self.inside.buffers.items in
    let old : Block = c.index_mut.result.now in
    let new : Block = c.put_cells.new.self in
    let is = c.put_cells.ensures.set in
    let value = c.index_mut.ensures.value in
    same_limits blocks c.args.spot.buffer old new (ap (λ block. Block.number block) is ∙ ap (λ block. Block.number block) value) (ap (λ block. Block.limit block) is ∙ ap
    (λ block. Block.limit block) value)
    ∙ ap limits_of c.self.view_is
