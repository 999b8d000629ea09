use Rattle.std.proofs.Common.{◌≡◌, ◌+◌, ◌-◌, ◌%◌, ◌^◌, ap, ◌∙◌, ℤ, rules, w64, of_z, SFits}
use Rattle.std.proofs.lemmas.Int.{to_z-of_z}
use Rattle.interpreter.proofs.Distances.{distance_place}
use Rattle.interpreter.proofs.buffers.raster.distance.Goals as goal

pub returns : goal.returns
returns c = λ w end lt.
    let z : ℤ = c.args.number.value in
    let o : ℤ = c.args.origin in
    let z_fits : SFits w64 z = search rules in
    let o_fits : SFits w64 o = search rules in
    let number : c.cast_unsigned.result ≡ of_z w64 z = c.cast_unsigned.ensures ∙ ap (of_z w64) (to_z-of_z w64 z z_fits) in
    let from : c.cast_unsigned-from.result ≡ of_z w64 o = c.cast_unsigned-from.ensures ∙ ap (of_z w64) (to_z-of_z w64 o o_fits) in
    distance_place z o _ w z_fits o_fits (λ i. (number i + (2 ^ 64 - from i)) % 2 ^ 64) end lt
