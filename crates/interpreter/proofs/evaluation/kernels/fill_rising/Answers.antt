use Rattle.std.proofs.Common.{◌<◌, ℕ, ℤ, arith, pos, ◌+ℤ◌, length}
use Rattle.std.proofs.lemmas.Int.{ints}
use Rattle.interpreter.proofs.Each.{each_begin, each_next}
use Rattle.interpreter.proofs.evaluation.kernels.fill_rising.Goals as goal

pub loop-turn-init : goal.loop-turn-init
loop-turn-init c = each_begin (λ k. c.args.first.value +ℤ pos k) c.args.out.now

pub loop-turn-preserved : goal.loop-turn-preserved
loop-turn-preserved c =
    let l = c.loop-turn in
    let g : ℕ → ℤ = λ k. c.args.first.value +ℤ pos k in
    let lt : l.turn < length l.out = omega arith in
    each_next g l.turn c.args.out.now l.out _ lt l.invariant (c.risen.ensures)

pub returns : goal.returns
returns c = λ k lt. c.loop-turn.invariant.done k (omega arith)

pub risen-requires : goal.risen-requires
risen-requires c = record { count = (let h = c.requires.count in omega arith); last = (let h = c.requires.last in omega (arith, ints)) }
