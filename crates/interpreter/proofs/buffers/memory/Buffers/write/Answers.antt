use Rattle.std.proofs.Common.{List, Option, Some, ℕ, position, set, sym, ap, refl, ◌∙◌}
use Rattle.std.specs.Prelude.{◌==◌, ◌&&◌}
use Rattle.std.proofs.lemmas.Bool.{OnTrue_from, OnTrue_at}
use Rattle.std.proofs.lemmas.List.{set-get_or}
use Rattle.plan.specs.Semantics.Memory.{write}
use Rattle.interpreter.specs.Buffers.Blocks.{Block, limits_of, memory_of, IsSetAt}
use Rattle.interpreter.proofs.Blocks.{found_block, used_found, no_block, placed_at, same_limits, kept, IsKept, memory_written, memory_outside, memory_unwritten}
use Rattle.interpreter.proofs.buffers.memory.Buffers.write.Goals as goal

pub returns-in-Some-clause-set : goal.returns-in-Some-clause-set
returns-in-Some-clause-set c =
    let blocks : List Block = c.self.inside.buffers.items in
    let old : Block = c.index_mut.result.now in
    let new : Block = c.write.new.self in
    let at : List Block → Option ℕ = λ bs. position (λ block. block.used && (c.args.buffer == block.number)) bs in
    let found = sym (ap at c.deref.ensures.value) ∙ sym c.used_position.ensures ∙ c.in-Some.is in
    let here = found_block blocks c.args.buffer c.in-Some.found old found ∙ ap Some (sym c.index_mut.ensures.value) in
    let was = used_found blocks c.args.buffer c.in-Some.found old found in
    let number = ap (λ block. Block.number block) c.index_mut.ensures.value ∙ was.1 in
    let used = ap (λ block. Block.used block) c.index_mut.ensures.value ∙ was.0 in
    OnTrue_from c.write.result _ (λ e.
    let is_set : IsSetAt old new c.args.at.now c.args.value = OnTrue_at e c.write.ensures.set in
    ap (λ bs. write (memory_of bs) c.args.buffer c.args.at.now c.args.value) (sym c.self.view_is)
    ∙ memory_written blocks _ c.args.buffer old new c.args.at.now c.args.value is_set here (placed_at blocks c.args.buffer c.in-Some.found old new found (is_set.used ∙ used) (is_set.number ∙ number)))

pub returns-in-Some-clause-outside : goal.returns-in-Some-clause-outside
returns-in-Some-clause-outside c h =
    let blocks : List Block = c.self.inside.buffers.items in
    let old : Block = c.index_mut.result.now in
    let at : List Block → Option ℕ = λ bs. position (λ block. block.used && (c.args.buffer == block.number)) bs in
    let found = sym (ap at c.deref.ensures.value) ∙ sym c.used_position.ensures ∙ c.in-Some.is in
    let here = found_block blocks c.args.buffer c.in-Some.found old found ∙ ap Some (sym c.index_mut.ensures.value) in
    let same = c.write.ensures.outside h in (
      ap (λ bs. write (memory_of bs) c.args.buffer c.args.at.now c.args.value) (sym c.self.view_is) ∙ memory_outside blocks c.args.buffer old c.args.at.now c.args.value here same.0,
      ap (set blocks c.in-Some.found) (same.1 ∙ c.index_mut.ensures.value) ∙ set-get_or blocks c.in-Some.found old ∙ c.self.view_is,
    )

pub returns-in-None-clause-outside : goal.returns-in-None-clause-outside
returns-in-None-clause-outside c h =
    let at : List Block → Option ℕ = λ blocks. position (λ block. block.used && (c.args.buffer == block.number)) blocks in
    let none = sym (ap at (c.deref.ensures.value ∙ c.self.view_is)) ∙ sym c.used_position.ensures ∙ c.in-None.is in
    (memory_unwritten c.args.self.now c.args.buffer c.args.at.now c.args.value (no_block c.args.self.now c.args.buffer none), refl)

pub returns-in-Some-clause-limits : goal.returns-in-Some-clause-limits
returns-in-Some-clause-limits c =
    let blocks : List Block = c.self.inside.buffers.items in
    let old : Block = c.index_mut.result.now in
    let new : Block = c.write.new.self in
    let by : IsKept old new = kept c.write.result old new c.args.at.now c.args.value c.write.ensures.set (λ h. (c.write.ensures.outside h).1) in
    same_limits blocks c.in-Some.found old new (by.number ∙ ap (λ block. Block.number block) c.index_mut.ensures.value) (by.limit ∙ ap (λ block. Block.limit block) c.index_mut.ensures.value)
    ∙ ap limits_of c.self.view_is
