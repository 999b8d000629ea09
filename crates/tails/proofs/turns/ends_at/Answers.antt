use Rattle.std.proofs.Common.{◌≡◌, arith, ◌+ℤ◌, ◌-ℤ◌, pos, to_z, of_z}
use mir.Syntax.{w128}
use mir.Val.{SFits}
use Rattle.std.proofs.lemmas.Int.{ints}
use Rattle.tails.proofs.Factors.{both_eq}
use Rattle.tails.proofs.turns.ends_at.Goals as goal

pub returns : goal.returns
returns c =
    let sums : to_z w128 (of_z w128 c.from.result) +ℤ to_z w128 (of_z w128 (to_z w128 (of_z w128 c.from-2.result) -ℤ pos 1)) ≡ c.args.first +ℤ (c.args.count -ℤ pos 1) = omega (arith, ints) in
    let fits : SFits w128 (to_z w128 (of_z w128 c.from.result) +ℤ to_z w128 (of_z w128 (to_z w128 (of_z w128 c.from-2.result) -ℤ pos 1))) = omega (arith, ints) in
    let fits-2 : SFits w128 c.from-3.result = omega (arith, ints) in
    let lasts : c.from-3.result ≡ c.args.last = omega (arith, ints) in
    both_eq _ _ _ _ fits fits-2 sums lasts
