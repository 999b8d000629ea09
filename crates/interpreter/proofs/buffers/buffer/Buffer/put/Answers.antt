use Rattle.std.proofs.Common.{◌≡◌, ◌+◌, ◌<◌, ◌∙◌, ℕ, List, Option, Some, length, map, subst, set, sym, ap, arith}
use Rattle.std.specs.Vec.{with_items}
use Rattle.std.proofs.lemmas.List.{with_items_is}
use Rattle.tree.specs.declared.value.Value.{Value}
use Rattle.plan.specs.Rooms.{Room}
use Rattle.interpreter.specs.Buffers.PlaceBits.{bits_of}
use Rattle.interpreter.specs.Buffers.Rooms.{room_of}
use Rattle.interpreter.specs.Buffers.Raster.{LiesAt}
use Rattle.interpreter.specs.Buffers.Blocks.{Block, IsSetAt}
use Rattle.interpreter.specs.Buffers.Spots.{with_place}
use Rattle.interpreter.specs.Buffers.Marks.{held_places}
use Rattle.interpreter.proofs.Blocks.{set_at_number}
use Rattle.interpreter.proofs.HeldPlaces.{held_length}
use Rattle.interpreter.proofs.buffers.buffer.Buffer.put.Goals as goal

pub returns-clause-set : goal.returns-clause-set
returns-clause-set c = λ p lies.
    let inside = c.self.inside in
    let number = c.self.inside.number in
    let rooms : List Room = map room_of c.self.inside.rooms.items in
    let places = held_places c.self.inside.marks.items (bits_of c.self.inside.bits) c.self.inside.wides.items in
    let marks_is : (with_items c.self.inside.marks c.set_place.new.marks).items ≡ c.set_place.new.marks = with_items_is c.self.inside.marks c.set_place.new.marks (omega arith) in
    let now_held = held_places (with_items c.self.inside.marks c.set_place.new.marks).items (bits_of c.set_place.new.bits) c.set_place.new.wides.items in
    let held_is : held_places c.set_place.new.marks (bits_of c.set_place.new.bits) c.set_place.new.wides.items ≡ now_held = λ i. held_places (sym marks_is i) (bits_of c.set_place.new.bits)
    c.set_place.new.wides.items in
    let marks : inside.marks.items ≡ c.as_mut_slice-marks.result.now = sym c.as_mut_slice-marks.ensures.value in
    let same : places ≡ held_places c.as_mut_slice-marks.result.now (bits_of inside.bits) inside.wides.items = λ i. held_places (marks i) (bits_of inside.bits) inside.wides.items in
    let n : ℕ = c.args.place + c.args.behind in
    let target : ℕ = c.place_behind-target.result in
    let block : Block = record { number = number; limit = c.self.inside.limit; used = c.self.inside.is_used; rooms = rooms; places = places } in
    let made : ℕ → Block = λ m. record { number = number; limit = c.self.inside.limit; used = c.self.inside.is_used; rooms = rooms; places = set places m (Some c.args.value) } in
    let L : Block → Type 0 = λ b. LiesAt b.rooms p n in
    let is_set : IsSetAt block (made n) p c.args.value =
    set_at_number number c.self.inside.limit c.self.inside.is_used rooms places p n c.args.value (held_length c.self.inside.marks.items (bits_of c.self.inside.bits)
    c.self.inside.wides.items ∙ c.self.invariant.0)
    (subst L (sym c.self.view_is) lies) in
    let after : List (Option Value) → Block = λ ps. record { number = number; limit = c.self.inside.limit; used = c.self.inside.is_used; rooms = rooms; places = ps } in
    let at_target : IsSetAt block (made target) p c.args.value = subst (λ (m : ℕ). IsSetAt block (made m) p c.args.value) (sym c.place_behind-target.ensures) is_set in
    let set_now : set places target (Some c.args.value) ≡ now_held = ap (λ (ps : List (Option Value)). set ps target (Some c.args.value)) same ∙ sym c.set_place.ensures.set ∙ held_is in
    let now : IsSetAt block (after now_held) p c.args.value = subst (λ (ps : List (Option Value)). IsSetAt block (after ps) p c.args.value) set_now at_target in
    subst (λ (old : Block). IsSetAt old (after now_held) p c.args.value) c.self.view_is now

pub returns-clause-is : goal.returns-clause-is
returns-clause-is c =
    let inside = c.self.inside in
    let places = held_places inside.marks.items (bits_of inside.bits) inside.wides.items in
    let marks : inside.marks.items ≡ c.as_mut_slice-marks.result.now = sym c.as_mut_slice-marks.ensures.value in
    let same : places ≡ held_places c.as_mut_slice-marks.result.now (bits_of inside.bits) inside.wides.items = λ i. held_places (marks i) (bits_of inside.bits) inside.wides.items in
    let marks_is : (with_items c.self.inside.marks c.set_place.new.marks).items ≡ c.set_place.new.marks = with_items_is c.self.inside.marks c.set_place.new.marks (omega arith) in
    let now_held = held_places (with_items c.self.inside.marks c.set_place.new.marks).items (bits_of c.set_place.new.bits) c.set_place.new.wides.items in
    let held_is : held_places c.set_place.new.marks (bits_of c.set_place.new.bits) c.set_place.new.wides.items ≡ now_held = λ i. held_places (sym marks_is i) (bits_of c.set_place.new.bits)
    c.set_place.new.wides.items in
    let block : Block = record { number = inside.number; limit = inside.limit; used = inside.is_used; rooms = map room_of inside.rooms.items; places = places } in
    let after : List (Option Value) → Block = λ ps. record { number = inside.number; limit = inside.limit; used = inside.is_used; rooms = map room_of inside.rooms.items; places = ps } in
    let target : ℕ = c.place_behind-target.result in
    ap after (sym held_is ∙ c.set_place.ensures.set ∙ ap (λ (ps : List (Option Value)). set ps target (Some c.args.value)) (sym same))
    ∙ ap (λ (n : ℕ). with_place block n c.args.value) c.place_behind-target.ensures
    ∙ ap (λ (b : Block). with_place b (c.args.place + c.args.behind) c.args.value) c.self.view_is

pub place_behind-target-requires : goal.place_behind-target-requires
place_behind-target-requires c =
    let ms = c.self.inside.marks.items in
    let ws = bits_of c.self.inside.bits in
    let zs = c.self.inside.wides.items in
    let long = held_length ms ws zs in
    let inside : c.args.place + c.args.behind < length (held_places ms ws zs) = subst (λ (b : Block). c.args.place + c.args.behind < length b.places) (sym c.self.view_is) c.requires in
    omega (arith, inside, long, c.len.ensures)
