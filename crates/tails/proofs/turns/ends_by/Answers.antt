use Rattle.std.proofs.Common.{◌≡◌, arith, ◌+ℤ◌, ◌-ℤ◌, pos, to_z, of_z}
use mir.Syntax.{w128}
use Rattle.std.proofs.lemmas.Int.{ints}
use Rattle.tails.proofs.Factors.{both_le}
use Rattle.tails.proofs.turns.ends_by.Goals as goal

pub returns : goal.returns
returns c =
    let sums : to_z w128 (of_z w128 (to_z w128 (of_z w128 c.from.result) +ℤ to_z w128 (of_z w128 (to_z w128 (of_z w128 c.from-2.result) -ℤ pos 1)))) ≡ c.args.first +ℤ (c.args.count -ℤ pos 1) = omega (arith, ints) in
    let lasts : to_z w128 (of_z w128 c.from-3.result) ≡ c.args.last = omega (arith, ints) in
    both_le _ _ _ _ sums lasts
