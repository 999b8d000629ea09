use Rattle.std.proofs.Common.{◌∷◌, ◌+◌, ◌*◌, ◌<◌, ◌^◌, ℕ, ℤ, map, pos, subst, sym, rules, w64, SFits}
use Rattle.std.specs.Prelude.{◌+ℤ◌, IfSome}
use Rattle.std.proofs.lemmas.Int.{to_z-of_z}
use Rattle.plan.specs.Rooms.{Straight}
use Rattle.interpreter.specs.Buffers.Rooms.{room_of}
use Rattle.interpreter.specs.Buffers.Raster.{place_count, room_count, LiesAt}
use Rattle.interpreter.specs.declared.buffers.room.Room.{Room as CodeRoom}
use Rattle.interpreter.proofs.buffers.stretch.behind.Goals as goal

pub straight-requires : goal.straight-requires
straight-requires c = subst (λ (x : CodeRoom). place_count (map room_of c.args.later.now) * room_count (room_of x) < 2 ^ 64) c.in-Straight.is c.requires

pub returns-in-Straight : goal.returns-in-Straight
returns-in-Straight c =
    let origin : ℤ = c.in-Straight.origin in
    let fits : SFits w64 origin = search rules in
    let rs = map room_of c.args.later.now in
    let others = c.args.others.now in
    subst (λ (x : CodeRoom). IfSome c.straight.result (λ s. (k : ℕ) → k < s.count → LiesAt (room_of x ∷ rs) ((s.origin +ℤ pos k) ∷ others) (s.start + k))) (sym c.in-Straight.is)
    (subst (λ (o : ℤ). IfSome c.straight.result (λ s. (k : ℕ) → k < s.count → LiesAt (Straight o c.in-Straight.count ∷ rs) ((s.origin +ℤ pos k) ∷ others) (s.start + k)))
    (to_z-of_z w64 origin fits) c.straight.ensures)
