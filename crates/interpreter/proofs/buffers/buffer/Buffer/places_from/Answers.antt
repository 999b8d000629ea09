use Rattle.std.proofs.Common.{◌≡◌, ◌∷◌, ◌+◌, ◌<◌, ℕ, ℤ, List, map, length, subst, sym, ap, ◌∙◌, pos, rules, w64, SFits}
use Rattle.std.specs.Prelude.{◌+ℤ◌}
use Rattle.std.proofs.lemmas.Int.{to_z-of_z}
use Rattle.plan.specs.Rooms.{Room}
use Rattle.interpreter.specs.Buffers.PlaceBits.{bits_of}
use Rattle.interpreter.specs.Buffers.Rooms.{room_of}
use Rattle.interpreter.specs.Buffers.Raster.{place_count, LiesAt}
use Rattle.interpreter.specs.Buffers.Blocks.{Block}
use Rattle.interpreter.specs.declared.buffers.room.Room.{Room as CodeRoom}
use Rattle.interpreter.proofs.HeldPlaces.{held_length}
use Rattle.interpreter.proofs.Spots.{lies_from}
use Rattle.interpreter.proofs.buffers.buffer.Buffer.places_from.Goals as goal

pub returns-clause-lies : goal.returns-clause-lies
returns-clause-lies c = λ k lt.
    let block : Block = c.args.self.now in
    let others = c.args.others.now in
    let s = c.in_ok-stretch.stretch in
    let origin : ℤ = s.origin in
    let fits : SFits w64 origin = search rules in
    let skipped : ℕ = c.in_ok-skipped.skipped in
    let rooms : map room_of c.deref.result.now ≡ block.rooms = ap (λ (rs : List CodeRoom). map room_of rs) c.deref.ensures ∙ ap (λ (b : Block). b.rooms) c.self.view_is in
    let lies : (j : ℕ) → j < s.count → LiesAt block.rooms ((origin +ℤ pos j) ∷ others) (s.start + j) =
    λ j more. subst (λ (rs : List Room). LiesAt rs ((origin +ℤ pos j) ∷ others) (s.start + j)) rooms (c.in_ok-stretch.ensures j more) in
    let first : c.args.first ≡ origin +ℤ pos skipped = sym (to_z-of_z w64 c.args.first c.ranges.first) ∙ c.in_ok-skipped.ensures ∙ ap (λ (o : ℤ). o +ℤ pos skipped) (to_z-of_z w64 origin fits) in
    lies_from block.rooms origin c.args.first s.start s.count skipped c.args.count c.in_ok-place.place k others lies first c.if-not-have_room.ensures c.in_ok-place.ensures lt

pub returns-clause-inside : goal.returns-clause-inside
returns-clause-inside c = λ k lt.
    let place : ℕ = c.in_ok-place.place in
    let here = returns-clause-lies c k lt in
    let counted : place + k < place_count (map room_of c.self.inside.rooms.items) = subst (λ (b : Block). place + k < place_count b.rooms) (sym c.self.view_is) here.counted in
    let inside : place + k < length c.self.inside.marks.items = subst (λ (n : ℕ). place + k < n) (sym c.self.invariant.0) counted in
    let long = held_length c.self.inside.marks.items (bits_of c.self.inside.bits) c.self.inside.wides.items in
    subst (λ (b : Block). place + k < length b.places) c.self.view_is (subst (λ (n : ℕ). place + k < n) (sym long) inside)
