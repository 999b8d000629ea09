use Rattle.std.proofs.Common.{◌∷◌, ◌+◌, ◌<◌, ◌^◌, ℕ, List, map, pos, subst, sym, arith}
use Rattle.std.specs.Prelude.{◌+ℤ◌, IfSome}
use Rattle.interpreter.specs.Buffers.Rooms.{room_of}
use Rattle.interpreter.specs.Buffers.Raster.{place_count, LiesAt}
use Rattle.interpreter.specs.declared.buffers.room.Room.{Room as CodeRoom}
use Rattle.interpreter.proofs.Windows.{first_room}
use Rattle.interpreter.proofs.buffers.stretch.stretch_of.Goals as goal

pub behind-requires : goal.behind-requires
behind-requires c = subst (λ (rs : List CodeRoom). place_count (map room_of rs) < 2 ^ 64) (first_room c.args.rooms.now _ (omega (arith, c.in-len1-up.len_at_least))) c.requires

pub returns-in-len1-up : goal.returns-in-len1-up
returns-in-len1-up c =
    subst (λ (rs : List CodeRoom). IfSome c.behind.result (λ s. (k : ℕ) → k < s.count → LiesAt (map room_of rs) ((s.origin +ℤ pos k) ∷ c.args.others.now) (s.start + k)))
    (sym (first_room c.args.rooms.now _ (omega (arith, c.in-len1-up.len_at_least)))) c.behind.ensures
