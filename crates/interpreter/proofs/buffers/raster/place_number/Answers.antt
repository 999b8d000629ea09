use Rattle.std.proofs.Common.{◌≡◌, ◌∷◌, [], ◌≤◌, ◌<◌, ℤ, List, None, length, map, pos, sym, ◌∙◌, subst, arith, rules, slice_index_or, w64, to_z, of_z, SFits}
use Rattle.std.specs.Prelude.{MatchOption}
use Rattle.std.proofs.lemmas.Int.{to_z-of_z}
use Rattle.std.proofs.lemmas.Bool.{ltb-false, ltb-true}
use Rattle.plan.specs.Rooms.{place}
use Rattle.interpreter.specs.Buffers.Raster.{LiesAt}
use Rattle.interpreter.specs.Buffers.Rooms.{room_of}
use Rattle.interpreter.specs.declared.buffers.room.Room.{Room}
use Rattle.interpreter.specs.declared.buffers.room.Room.TheVariants.{Straight}
use Rattle.interpreter.proofs.Points.{only_three}
use Rattle.interpreter.proofs.buffers.raster.place_number.Goals as goal

pub returns-in-len3-len3 : goal.returns-in-len3-len3
returns-in-len3-len3 c =
    let rooms = c.args.rooms.now in
    let at = c.args.at.now in
    let x : ℤ = slice_index_or at 0 (pos 0) in
    let y : ℤ = slice_index_or at 1 (pos 0) in
    let z : ℤ = slice_index_or at 2 (pos 0) in
    let x_fits : SFits w64 x = search rules in
    let y_fits : SFits w64 y = search rules in
    let z_fits : SFits w64 z = search rules in
    let P : List Room → List ℤ → Type 0 = λ rs zs. MatchOption c.place_of_three.result (place (map room_of rs) zs ≡ None) (λ n. LiesAt (map room_of rs) zs n) in
    let given : List ℤ = to_z w64 (of_z w64 x) ∷ to_z w64 (of_z w64 y) ∷ to_z w64 (of_z w64 z) ∷ [] in
    let from : 3 ≤ length rooms = omega (arith, ltb-false, ltb-true) in
    let to : length rooms < 4 = omega (arith, ltb-false, ltb-true) in
    let at_from : 3 ≤ length at = omega (arith, ltb-false, ltb-true) in
    let at_to : length at < 4 = omega (arith, ltb-false, ltb-true) in
    let point : given ≡ at = (λ i. to_z-of_z w64 x x_fits i ∷ to_z-of_z w64 y y_fits i ∷ to_z-of_z w64 z z_fits i ∷ []) ∙ sym (only_three at (pos 0) at_from at_to) in
    subst (λ (zs : List ℤ). P rooms zs) point (subst (λ (rs : List Room). P rs given) (sym (only_three rooms (Straight (pos 0) 0) from to)) c.place_of_three.ensures)
