use Rattle.std.proofs.Common.{◌≡◌, ◌<◌, ℕ, ℤ, ap, ◌∙◌, arith, length}
use Rattle.std.specs.Int.{int_max, int_min}
use Rattle.interpreter.specs.Evaluation.Lanes.{number_at}
use Rattle.interpreter.proofs.Each.{each_begin, each_next}
use Rattle.interpreter.proofs.evaluation.kernels.clamp_between.Goals as goal

pub loop-turn-init : goal.loop-turn-init
loop-turn-init c = each_begin (λ k. int_max (int_min (number_at c.args.out.now k) (c.args.high.value)) (c.args.low.value)) c.args.out.now

pub loop-turn-preserved : goal.loop-turn-preserved
loop-turn-preserved c =
    let l = c.loop-turn in
    let g : ℕ → ℤ = λ k. int_max (int_min (number_at c.args.out.now k) (c.args.high.value)) (c.args.low.value) in
    let lt : l.turn < length l.out = omega arith in
    let same : number_at l.out l.turn ≡ number_at c.args.out.now l.turn = l.invariant.later l.turn (omega arith) in
    each_next g l.turn c.args.out.now l.out _ lt l.invariant (c.clamped_number.ensures ∙ ap (λ (z : ℤ). int_max (int_min z (c.args.high.value)) (c.args.low.value)) same)

pub returns : goal.returns
returns c = λ k lt. c.loop-turn.invariant.done k (omega arith)
