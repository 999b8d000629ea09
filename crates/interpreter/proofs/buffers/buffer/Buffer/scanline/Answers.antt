use Rattle.std.proofs.Common.{◌≡◌, ◌∷◌, ◌+◌, ◌<◌, ℕ, ℤ, List, Some, map, subst, ap, ◌∙◌, drop, take, pos, Option, rules, w64, SFits}
use Rattle.std.specs.Prelude.{◌+ℤ◌, ◌-ℤ◌}
use Rattle.std.proofs.lemmas.Int.{to_z-of_z}
use Rattle.tree.specs.declared.value.Value.{Value}
use Rattle.plan.specs.Rooms.{Room}
use Rattle.interpreter.specs.Buffers.Rooms.{room_of}
use Rattle.interpreter.specs.Buffers.Raster.{LiesAt}
use Rattle.interpreter.specs.Buffers.Blocks.{Block}
use Rattle.interpreter.specs.Buffers.Marks.{places_held}
use Rattle.interpreter.specs.Scanlines.{along}
use Rattle.interpreter.specs.declared.buffers.room.Room.{Room as CodeRoom}
use Rattle.interpreter.proofs.Windows.{scan_held}
use Rattle.interpreter.proofs.buffers.buffer.Buffer.scanline.Goals as goal

pub returns : goal.returns
returns c = λ z v h.
    let block : Block = c.args.self.now in
    let others = c.args.others.now in
    let s = c.in_ok-stretch.stretch in
    let origin : ℤ = s.origin in
    let fits : SFits w64 origin = search rules in
    let rooms : map room_of c.deref.result.now ≡ block.rooms = ap (λ (rs : List CodeRoom). map room_of rs) c.deref.ensures ∙ ap (λ (b : Block). b.rooms) c.self.view_is in
    let lies : (k : ℕ) → k < s.count → LiesAt block.rooms ((origin +ℤ pos k) ∷ others) (s.start + k) =
    λ k lt. subst (λ (rs : List Room). LiesAt rs ((origin +ℤ pos k) ∷ others) (s.start + k)) rooms (c.in_ok-stretch.ensures k lt) in
    let w = places_held c.in_ok-held.held in
    let same : w ≡ take s.count (drop s.start block.places) =
    c.in_ok-held.ensures.same ∙ ap (λ (xs : List (Option Value)). take s.count (drop s.start xs)) c.held.ensures in
    let there : along w (z -ℤ origin) ≡ Some (Some v) = subst (λ (o : ℤ). along w (z -ℤ o) ≡ Some (Some v)) (to_z-of_z w64 origin fits) h in
    scan_held block.rooms block.places origin s.start s.count others lies z v (subst (λ (xs : List (Option Value)). along xs (z -ℤ origin) ≡ Some (Some v)) same there)
