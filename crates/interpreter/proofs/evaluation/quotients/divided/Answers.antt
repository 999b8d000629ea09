use Rattle.std.proofs.Common.{◌≡◌, ◌<◌, ◌%◌, ◌+◌, ◌-◌, ◌*◌, ℕ, ap, ◌∙◌, arith}
use Rattle.interpreter.proofs.Divisions.{rest_is}
use Rattle.interpreter.proofs.evaluation.quotients.divided.Goals as goal

pub returns-clause-rest : goal.returns-clause-rest
returns-clause-rest c =
    let n = c.args.number in
    let q = c.from.result in
    let d = c.from-2.result in
    let same : d ≡ c.args.divisor = c.from-2.ensures in
    let whole : q * d + (n - q * d) ≡ n = omega arith in
    let small : n - q * d < d = omega arith in
    rest_is n q d (n - q * d) whole small ∙ ap (λ (m : ℕ). n % m) same
