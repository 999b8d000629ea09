use Rattle.std.proofs.Common.{◌≡◌, ◌<◌, ℕ, List, Option, Some, option_map, drop, set, sym, ap, subst, ◌∙◌, arith}
use Rattle.std.specs.Prelude.{slice_get}
use Rattle.std.proofs.lemmas.Option.{get_or_from_slice_get}
use Rattle.tree.specs.declared.value.Value.{Value}
use Rattle.plan.specs.Semantics.Memory.{Memory}
use Rattle.interpreter.specs.Buffers.Blocks.{Block, limits_of, memory_of}
use Rattle.interpreter.specs.Buffers.Spots.{HasPlace}
use Rattle.interpreter.specs.HeldTurns.{turned, updated, with_places}
use Rattle.interpreter.specs.PlaceNumbers.{place_at, UpdateStands}
use Rattle.interpreter.specs.declared.evaluation.lanes.Number.{Number}
use Rattle.interpreter.proofs.Blocks.{same_limits}
use Rattle.interpreter.proofs.FoundRuns.{if_some}
use Rattle.interpreter.proofs.HeldTurns.{map_twice, same_buffer, turns_are}
use Rattle.interpreter.proofs.buffers.memory.Buffers.turn_all.Goals as goal

pub returns-clause-run : goal.returns-clause-run
returns-clause-run c =
    let blocks : List Block = c.self.inside.buffers.items in
    let t = c.args.target in
    let u = c.args.update in
    let zs = c.args.registers.now in
    let p = c.args.places.now in
    let old : Block = c.index_mut.result.now in
    let new : Block = c.turn_all.new.self in
    let some : 0 < t.count = omega arith in
    let stands : (k : ℕ) → k < t.count → UpdateStands blocks t.buffer t.size t.count t.position u zs p.point.now p.left.now p.right.now k =
    λ k lt. subst (λ (bs : List Block). UpdateStands bs t.buffer t.size t.count t.position u zs p.point.now p.left.now p.right.now k) (sym c.self.view_is) (c.requires k lt) in
    let first : HasPlace blocks t.position (place_at p.point.now 0) = (stands 0 some).point.inside in
    let is : old ≡ first.block = c.index_mut.ensures.value ∙ get_or_from_slice_get blocks t.position first.block old first.there in
    let there : slice_get blocks t.position ≡ Some old = first.there ∙ ap Some (sym is) in
    let numbers : c.registers_behind-numbers.result.now ≡ drop u.start zs = c.registers_behind-numbers.ensures in
    let behind : c.registers_behind-behind.result.now ≡ drop u.operation.width (drop u.start zs) = c.registers_behind-behind.ensures ∙ ap (drop u.operation.width) numbers in
    let shown : Block → Memory Value = λ x. memory_of (set blocks t.position x) in
    let held : List Number → List Number → Option (List (Option Value)) = λ a d. turned u.operation a d p.point.now p.left.now p.right.now old.places t.count in
    let all = turns_are blocks t.buffer t.size t.count t.position old u zs p.point.now p.left.now p.right.now there c.turn_all.ensures.counted stands t.count (omega arith) in
    sym (map_twice shown (λ _. new) c.turn_all.result)
    ∙ ap (option_map shown) c.turn_all.ensures.turned
    ∙ map_twice shown (with_places old) (held c.registers_behind-numbers.result.now c.registers_behind-behind.result.now)
    ∙ (λ i. option_map (λ h. shown (with_places old h)) (held (numbers i) (behind i)))
    ∙ sym all
    ∙ ap (λ (bs : List Block). updated t.count t.size t.buffer u zs (memory_of bs) t.count) c.self.view_is

pub returns-clause-limits : goal.returns-clause-limits
returns-clause-limits c =
    let blocks : List Block = c.self.inside.buffers.items in
    let old : Block = c.index_mut.result.now in
    let new : Block = c.turn_all.new.self in
    let value = c.index_mut.ensures.value in
    if_some c.turn_all.result (λ _. (new.number ≡ old.number) × (new.limit ≡ old.limit)) _
    (λ _ e. same_limits blocks c.args.target.position old new (e.0 ∙ ap (λ (b : Block). b.number) value) (e.1 ∙ ap (λ (b : Block). b.limit) value) ∙ ap limits_of c.self.view_is)
    (same_buffer new old c.turn_all.result _ c.turn_all.ensures.turned)
