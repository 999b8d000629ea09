use Rattle.std.proofs.Common.{◌≡◌, ◌<◌, ◌≤◌, ◌^◌, ℕ, length, arith, pos, ap, ◌∙◌}
use Rattle.numeric.specs.declared.ty.Ty.{Ty}
use Rattle.numeric.specs.declared.op.Op.TheVariants.{Rem}
use Rattle.numeric.specs.Apply.{apply}
use Rattle.numeric.specs.Wrap.{bits, wrap}
use Rattle.interpreter.specs.Evaluation.Words.{bits_at, word_at}
use Rattle.interpreter.proofs.EachWord.{words_next}
use Rattle.interpreter.proofs.evaluation.powers.mask_each.Goals as goal

pub loop-turn-preserved : goal.loop-turn-preserved
loop-turn-preserved c =
    let l = c.loop-turn in
    let e = c.args.exponent in
    let P : ℕ → ℕ → Type 0 = λ k w. (t : Ty) → e ≤ bits t → wrap t (pos w) ≡ apply Rem t (word_at t c.args.out.now k) (pos (2 ^ e)) in
    let lt : l.turn < length l.out = omega arith in
    let same : bits_at l.out l.turn ≡ bits_at c.args.out.now l.turn = l.invariant.later l.turn (omega arith) in
    words_next P l.turn c.args.out.now l.out _ lt l.invariant
    (λ t le. c.low_bits_of.ensures t le ∙ ap (λ (b : ℕ). apply Rem t (wrap t (pos b)) (pos (2 ^ e))) same)

pub returns : goal.returns
returns c = λ t k le lt. c.loop-turn.invariant.done k (omega arith) t le
