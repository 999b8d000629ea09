use Rattle.std.proofs.Common.{◌≡◌, arith, rules}
use Rattle.std.proofs.lemmas.Int.{ints}
use Rattle.numeric.specs.Apply.{quotient}
use Rattle.crop.proofs.Rules.{quotient_near}
use Rattle.crop.proofs.plans.quotient.Goals as goal

pub returns-clause-near : goal.returns-clause-near
returns-clause-near c =
    let near = quotient_near c.args.number c.args.divisor c.requires (omega (arith, ints)) (omega (arith, ints)) in
    let is : c.div_euclid.result ≡ quotient c.args.number c.args.divisor = search rules in
    (omega (arith, ints, near.0), omega (arith, ints, near.1))
