use Rattle.std.proofs.Common.{◌≡◌, arith, ◌+ℤ◌, pos, to_z, of_z}
use mir.Syntax.{w128}
use Rattle.std.proofs.lemmas.Int.{ints}
use Rattle.tails.proofs.Factors.{both_le}
use Rattle.tails.proofs.order.is_nearer.Goals as goal

pub returns : goal.returns
returns c =
    let lasts : to_z w128 (of_z w128 (to_z w128 (of_z w128 c.from.result) +ℤ pos 1)) ≡ c.args.last +ℤ pos 1 = omega (arith, ints) in
    let firsts : to_z w128 (of_z w128 (to_z w128 (of_z w128 c.from-2.result) +ℤ to_z w128 (of_z w128 c.from-3.result))) ≡ c.args.first +ℤ c.args.far = omega (arith, ints) in
    both_le _ _ _ _ lasts firsts
