use Rattle.std.proofs.Common.{◌<◌, ℕ, ℤ, refl, arith, length}
use Rattle.interpreter.proofs.Each.{each_begin, each_next}
use Rattle.interpreter.proofs.evaluation.kernels.fill.Goals as goal

pub loop-turn-init : goal.loop-turn-init
loop-turn-init c = each_begin (λ k. c.args.number.value) c.args.out.now

pub loop-turn-preserved : goal.loop-turn-preserved
loop-turn-preserved c =
    let l = c.loop-turn in
    let g : ℕ → ℤ = λ k. c.args.number.value in
    let lt : l.turn < length l.out = omega arith in
    each_next g l.turn c.args.out.now l.out _ lt l.invariant (refl)

pub returns : goal.returns
returns c = λ k lt. c.loop-turn.invariant.done k (omega arith)
