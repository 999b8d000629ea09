use Rattle.std.proofs.Common.{◌≡◌, ◌+◌, ◌-◌, ℕ, sym, ap, ◌∙◌, arith}
use Rattle.interpreter.specs.Evaluation.Lending.{lent_bits}
use Rattle.interpreter.proofs.LentParts.{bits_among, bits_behind}
use Rattle.interpreter.proofs.evaluation.lent_row.LentOperand.bits.Goals as goal

pub returns-in-Some : goal.returns-in-Some
returns-in-Some c =
    let o = c.args.self in
    let j : ℕ = c.args.turn - o.before in
    let is : o.before + j ≡ c.args.turn = omega arith in
    c.in-Some.ensures.word ∙ sym (bits_among o j c.in-Some.ensures.inside) ∙ ap (lent_bits o) is

pub returns-in-None : goal.returns-in-None
returns-in-None c =
    let o = c.args.self in
    let past = c.in-None.ensures in
    sym (bits_behind o c.args.turn (omega (arith, past)))
