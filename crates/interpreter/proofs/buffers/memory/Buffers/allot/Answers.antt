use Rattle.std.proofs.Common.{◌≡◌, ◌≤◌, List, Option, ℕ, map, position, sym, ap, subst, ◌∙◌}
use Rattle.std.specs.Prelude.{◌==◌, ◌&&◌}
use Rattle.std.proofs.lemmas.List.Quantifiers.{position-Some}
use Rattle.plan.specs.Semantics.Memory.{allot}
use Rattle.interpreter.specs.Buffers.Raster.{place_count}
use Rattle.interpreter.specs.Buffers.Rooms.{room_of}
use Rattle.interpreter.specs.Buffers.Blocks.{Block, memory_of, limits_of, HasMemoryFor}
use Rattle.interpreter.proofs.Blocks.{limit_at, memory_allotted, number_found, number_there, placed_at, placed_new, same_limits, used_found}
use Rattle.interpreter.proofs.buffers.memory.Buffers.allot.Goals as goal

pub begin-requires : goal.begin-requires
begin-requires c =
    let blocks : List Block = c.self.inside.buffers.items in
    let b = c.args.buffer in
    let old : Block = c.index_mut.result.now in
    let at : List Block → Option ℕ = λ bs. position (λ block. block.used && (b == block.number)) bs in
    let found = sym (ap at c.deref.ensures.value) ∙ sym c.used_position.ensures ∙ c.in-Some.is in
    let n = place_count (map room_of c.args.rooms.items) in
    let room : HasMemoryFor (limits_of blocks) b n = subst (λ (bs : List Block). HasMemoryFor (limits_of bs) b n) (sym c.self.view_is) c.requires in
    subst (λ (x : Block). n ≤ x.limit) (sym c.index_mut.ensures.value)
    (limit_at blocks b n c.in-Some.found old room (position-Some (λ (block : Block). block.used && (b == block.number)) blocks c.in-Some.found old found).0 (used_found blocks b c.in-Some.found old found).1)

pub unreachable-requires : goal.unreachable-requires
unreachable-requires c =
    let blocks : List Block = c.self.inside.buffers.items in
    let b = c.args.buffer in
    let n = place_count (map room_of c.args.rooms.items) in
    let at : List Block → Option ℕ = λ bs. position (λ block. b == block.number) bs in
    number_there blocks b n (subst (λ (bs : List Block). HasMemoryFor (limits_of bs) b n) (sym c.self.view_is) c.requires)
    (sym (ap at c.deref-in-None.ensures.value) ∙ sym c.position.ensures ∙ c.in_default.is)

pub begin-requires-in-None : goal.begin-requires-in-None
begin-requires-in-None c =
    let blocks : List Block = c.self.inside.buffers.items in
    let b = c.args.buffer in
    let i = c.in-Some-position.found in
    let old : Block = c.index_mut-in-None.result.now in
    let at : List Block → Option ℕ = λ bs. position (λ block. b == block.number) bs in
    let found = sym (ap at c.deref-in-None.ensures.value) ∙ sym c.position.ensures ∙ c.in-Some-position.is in
    let n = place_count (map room_of c.args.rooms.items) in
    let room : HasMemoryFor (limits_of blocks) b n = subst (λ (bs : List Block). HasMemoryFor (limits_of bs) b n) (sym c.self.view_is) c.requires in
    subst (λ (x : Block). n ≤ x.limit) (sym c.index_mut-in-None.ensures.value)
    (limit_at blocks b n i old room (position-Some (λ (block : Block). b == block.number) blocks i old found).0 (number_found blocks b i old found))

pub returns-in-Some-clause-memory : goal.returns-in-Some-clause-memory
returns-in-Some-clause-memory c =
    let blocks : List Block = c.self.inside.buffers.items in
    let b = c.args.buffer in
    let i = c.in-Some.found in
    let old : Block = c.index_mut.result.now in
    let new : Block = c.begin.new.self in
    let rooms = map room_of c.args.rooms.items in
    let at : List Block → Option ℕ = λ bs. position (λ block. block.used && (b == block.number)) bs in
    let found = sym (ap at c.deref.ensures.value) ∙ sym c.used_position.ensures ∙ c.in-Some.is in
    let number : new.number ≡ b = ap (λ block. Block.number block) c.begin.ensures ∙ ap (λ block. Block.number block) c.index_mut.ensures.value ∙ (used_found blocks b i old found).1 in
    let placed = placed_at blocks b i old new found (ap (λ block. Block.used block) c.begin.ensures) number in
    memory_allotted blocks _ b rooms new (ap (λ block. Block.rooms block) c.begin.ensures) (ap (λ block. Block.places block) c.begin.ensures) placed ∙ ap (λ bs. allot (memory_of bs) b rooms) c.self.view_is

pub returns-in-Some-clause-limits : goal.returns-in-Some-clause-limits
returns-in-Some-clause-limits c =
    let old : Block = c.index_mut.result.now in
    let new : Block = c.begin.new.self in
    same_limits c.self.inside.buffers.items c.in-Some.found old new (ap (λ block. Block.number block) c.begin.ensures ∙ ap (λ block. Block.number block) c.index_mut.ensures.value)
    (ap (λ block. Block.limit block) c.begin.ensures ∙ ap (λ block. Block.limit block) c.index_mut.ensures.value) ∙ ap limits_of c.self.view_is

pub returns-in-Some-position-clause-memory : goal.returns-in-Some-position-clause-memory
returns-in-Some-position-clause-memory c =
    let blocks : List Block = c.self.inside.buffers.items in
    let b = c.args.buffer in
    let i = c.in-Some-position.found in
    let old : Block = c.index_mut-in-None.result.now in
    let new : Block = c.begin-in-None.new.self in
    let rooms = map room_of c.args.rooms.items in
    let used_at : List Block → Option ℕ = λ bs. position (λ block. block.used && (b == block.number)) bs in
    let at : List Block → Option ℕ = λ bs. position (λ block. b == block.number) bs in
    let none = sym (ap used_at c.deref.ensures.value) ∙ sym c.used_position.ensures ∙ c.in-None.is in
    let found = sym (ap at c.deref-in-None.ensures.value) ∙ sym c.position.ensures ∙ c.in-Some-position.is in
    let number : new.number ≡ b = ap (λ block. Block.number block) c.begin-in-None.ensures ∙ ap (λ block. Block.number block) c.index_mut-in-None.ensures.value ∙ number_found blocks b i old found in
    let placed = placed_new blocks b i old new none found (ap (λ block. Block.used block) c.begin-in-None.ensures) number in
    memory_allotted blocks _ b rooms new (ap (λ block. Block.rooms block) c.begin-in-None.ensures) (ap (λ block. Block.places block) c.begin-in-None.ensures) placed ∙ ap (λ bs. allot (memory_of bs) b rooms) c.self.view_is

pub returns-in-Some-position-clause-limits : goal.returns-in-Some-position-clause-limits
returns-in-Some-position-clause-limits c =
    let old : Block = c.index_mut-in-None.result.now in
    let new : Block = c.begin-in-None.new.self in
    same_limits c.self.inside.buffers.items c.in-Some-position.found old new (ap (λ block. Block.number block) c.begin-in-None.ensures ∙ ap (λ block. Block.number block) c.index_mut-in-None.ensures.value)
    (ap (λ block. Block.limit block) c.begin-in-None.ensures ∙ ap (λ block. Block.limit block) c.index_mut-in-None.ensures.value) ∙ ap limits_of c.self.view_is
