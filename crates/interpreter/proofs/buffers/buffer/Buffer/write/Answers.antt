use Rattle.std.proofs.Common.{◌≡◌, List, Option, Some, map, subst, sym, set, ap, ◌∙◌, arith}
use Rattle.std.specs.Vec.{with_items}
use Rattle.std.proofs.lemmas.List.{with_items_is}
use Rattle.tree.specs.declared.value.Value.{Value}
use Rattle.plan.specs.Rooms.{Room}
use Rattle.interpreter.specs.Buffers.PlaceBits.{bits_of}
use Rattle.interpreter.specs.Buffers.Rooms.{room_of}
use Rattle.interpreter.specs.declared.buffers.room.Room.{Room as CodeRoom}
use Rattle.interpreter.specs.Buffers.Raster.{LiesAt}
use Rattle.interpreter.specs.Buffers.Blocks.{Block, IsSetAt}
use Rattle.interpreter.specs.Buffers.Marks.{held_places}
use Rattle.interpreter.proofs.Blocks.{set_at_number}
use Rattle.interpreter.proofs.HeldPlaces.{held_length}
use Rattle.interpreter.proofs.buffers.buffer.Buffer.write.Goals as goal

pub returns-in-Some-clause-set : goal.returns-in-Some-clause-set
returns-in-Some-clause-set c =
    let inside = c.self.inside in
    let number = c.self.inside.number in
    let rooms : List Room = map room_of c.self.inside.rooms.items in
    let places = held_places c.self.inside.marks.items (bits_of c.self.inside.bits) c.self.inside.wides.items in
    let P : List CodeRoom → Type 0 = λ code. LiesAt (map room_of code) c.args.at.now c.in-Some.number in
    let after : List (Option Value) → Block = λ ps. record { number = number; limit = c.self.inside.limit; used = c.self.inside.is_used; rooms = rooms; places = ps } in
    let Q : List (Option Value) → Block → Type 0 = λ ps old. IsSetAt old (after ps) c.args.at.now c.args.value in
    let is_set : Q (set places c.in-Some.number (Some c.args.value)) (after places) =
    set_at_number number c.self.inside.limit c.self.inside.is_used rooms places c.args.at.now c.in-Some.number c.args.value
    (held_length c.self.inside.marks.items (bits_of c.self.inside.bits) c.self.inside.wides.items ∙ c.self.invariant.0) (subst P c.deref.ensures c.in-Some.ensures) in
    let marks_is : (with_items c.self.inside.marks c.set_place.new.marks).items ≡ c.set_place.new.marks = with_items_is c.self.inside.marks c.set_place.new.marks (omega arith) in
    let now_held = held_places (with_items c.self.inside.marks c.set_place.new.marks).items (bits_of c.set_place.new.bits) c.set_place.new.wides.items in
    let held_is : held_places c.set_place.new.marks (bits_of c.set_place.new.bits) c.set_place.new.wides.items ≡ now_held = λ i. held_places (sym marks_is i) (bits_of c.set_place.new.bits)
    c.set_place.new.wides.items in
    let marks : inside.marks.items ≡ c.as_mut_slice-marks.result.now = sym c.as_mut_slice-marks.ensures.value in
    let same : places ≡ held_places c.as_mut_slice-marks.result.now (bits_of inside.bits) inside.wides.items = λ i. held_places (marks i) (bits_of inside.bits) inside.wides.items in
    let set_now : set places c.in-Some.number (Some c.args.value) ≡ now_held = ap (λ (ps : List (Option Value)). set ps c.in-Some.number (Some c.args.value)) same ∙ sym
    c.set_place.ensures.set ∙ held_is in
    subst (Q now_held) c.self.view_is (subst (λ (ps : List (Option Value)). Q ps (after places)) set_now is_set)
